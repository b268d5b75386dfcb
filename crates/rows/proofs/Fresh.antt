-- A fresh memory: every place is put into row 0, one after the other. Assumes nothing.
use Prim.Native.Nat.{ℕ, zero, suc, ◌+◌, ◌<◌, ◌≤◌, ◌%◌}
use native.Mathlib.Omega.{arith}
use native.Mathlib.Numerals.{add-one}
use mathlib.Core.Path.{◌≡◌, refl, sym, ◌∙◌, subst, fun_ext}
use mathlib.Core.Logic.{◌≢◌}
use mathlib.Core.List.{List, [], ◌∷◌, ◌++◌}
use mathlib.Core.Bool.{Bool, true, false, cond}
use lib.Dec.{ltb, eqb}
use lib.ListN.{get_or, set, replicate, length-replicate, get_or-replicate}
use Rattle.rows.specs.Words.{owner, head, tail, put_last}
use Rattle.rows.specs.Rows.{Linked, put, total, Begun}
use Rattle.rows.proofs.Links.{off, push_last, put_other}
use Rattle.rows.proofs.Shown.{shown, rows_found}

up_to : ℕ → List ℕ
up_to zero = []
up_to (suc n) = up_to n ++ (n ∷ [])

abbrev no_rows : ℕ → List ℕ
no_rows k = []

-- the first n places are in row 0, and no row holds the others
pub record BegunTo (m : List ℕ) (n : ℕ) : Type 0 where
  linked : Linked m (put 0 (up_to n) no_rows)
  loose : (q : ℕ) → n ≤ q → q < 32 → 67 ≤ owner m q

-- another place keeps its owner
last_owner : (m : List ℕ) (k p q : ℕ) → p < 32 → q < 32 → k < 67 → q ≢ p → owner (put_last m k p) q ≡ owner m q
unfolding put_last
last_owner m k p q lp lq lk n =
    let w = cond (ltb (head m k) 32) (set m (tail m k % 32) p) (set m (64 + k) p) in
    off (set (set w (131 + k) p) p 32) (32 + p) (32 + q) k (omega arith)
    ∙ (off (set w (131 + k) p) p (32 + q) 32 (omega arith) ∙ (off w (131 + k) (32 + q) p (omega arith) ∙ go (ltb (head m k) 32)))
  where
    go : (c : Bool) → get_or (cond c (set m (tail m k % 32) p) (set m (64 + k) p)) (32 + q) 0 ≡ owner m q
    go true = off m (tail m k % 32) (32 + q) p (omega arith)
    go false = off m (64 + k) (32 + q) p (omega arith)

put_none : put 0 [] no_rows ≡ no_rows
put_none = fun_ext (λ j. go (eqb j 0))
  where
    go : (c : Bool) → ◌≡◌ {A = List ℕ} (cond c [] []) []
    go true = refl
    go false = refl

put_put : (l o : List ℕ) → put 0 l (put 0 o no_rows) ≡ put 0 l no_rows
put_put l o = fun_ext (λ j. go (eqb j 0))
  where
    go : (c : Bool) → cond c l (cond c o []) ≡ cond c l []
    go true = refl
    go false = refl

pub begun_none : BegunTo (replicate 838 255) 0
unfolding up_to
begun_none = record {
  linked = subst (Linked (replicate 838 255)) (sym put_none) record {
    size = length-replicate {A = ℕ} 838 255;
    row = λ k h. record { run = omega (arith, get_or-replicate {A = ℕ} 838 (64 + k) 255 0 (omega arith)); last = tt };
  };
  loose = λ q h l. omega (arith, get_or-replicate {A = ℕ} 838 (32 + q) 255 0 (omega arith));
}

pub begun_more : (m : List ℕ) (n : ℕ) → n < 32 → BegunTo m n → BegunTo (put_last m 0 n) (n + 1)
unfolding up_to
begun_more m n h b =
    let R = put 0 (up_to n) no_rows in
    rw add-one record {
      linked = subst (Linked (put_last m 0 n)) (put_put (up_to n ++ (n ∷ [])) (up_to n)) (push_last m R 0 n b.linked (omega arith) h (b.loose n (omega arith) h));
      loose = λ q a l. omega (arith, last_owner m 0 n q h l (omega arith) (omega arith), b.loose q (omega arith) l);
    }

-- 32 places in all
all_places : total 67 (put 0 (up_to 32) no_rows) ≡ 32
unfolding total up_to
all_places = refl

pub begun_all : (m : List ℕ) → BegunTo m 32 → Begun m
unfolding up_to
begun_all m b =
    let R = put 0 (up_to 32) no_rows in record {
      sound = shown m R b.linked all_places;
      empty = λ k h n. rows_found m R b.linked all_places k h ∙ put_other 0 k (up_to 32) no_rows n;
    }
