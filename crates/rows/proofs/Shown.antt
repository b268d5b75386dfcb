-- The rows that the links lead through are the rows that the words hold; how many places they have; and what is read at the places of
-- a row. Assumes nothing.
use Prim.Native.Nat.{ℕ, zero, suc, ◌+◌, ◌<◌, ◌≤◌}
use native.Mathlib.Omega.{arith}
use native.Mathlib.Decide.{ℕ_discrete}
use mathlib.Core.Path.{◌≡◌, refl, sym, ap, ◌∙◌, subst}
use mathlib.Core.Logic.{by_cases}
use mathlib.Core.List.{List, [], ◌∷◌, ◌++◌, map}
use mathlib.Core.Bool.{Bool, true, false, cond}
use borrow.Author.Tests.{lt-ltb, le-ltb, ltb-true, ltb-false}
use lib.Dec.{ltb}
use lib.ListN.{length}
use Rattle.std.specs.Prelude.{None, Some}
use Rattle.rows.specs.Words.{next, owner, head, as_place}
use Rattle.rows.specs.Rows.{Run, Row, Linked, put, total, walk, row_of, SoundRows}
use Rattle.rows.proofs.Links.{put_same, put_other}

-- ---- how many places

pub total_same : (n : ℕ) (R S : ℕ → List ℕ) → ((k : ℕ) → k < n → R k ≡ S k) → total n R ≡ total n S
unfolding total
total_same zero R S e = refl
total_same (suc n) R S e = let p = total_same n R S (λ k h. e k (omega arith)) in let q = ap (length {A = ℕ}) (e n (omega arith)) in omega arith

-- a row in place of another
pub total_put : (n k : ℕ) (l : List ℕ) (R : ℕ → List ℕ) → k < n → total n (put k l R) + length (R k) ≡ total n R + length l
unfolding total
total_put zero k l R h = absurd (omega arith)
total_put (suc n) k l R h =
    by_cases (ℕ_discrete n k)
    (λ e.
    let p = total_same n (put k l R) R (λ j lj. put_other k j l R (omega arith)) in
    let q : length (put k l R n) ≡ length l = ap (length {A = ℕ}) (subst (λ z. put k l R z ≡ l) (sym e) (put_same k l R)) in
    let r : length (R n) ≡ length (R k) = ap (λ z. length (R z)) e in
    omega arith)
    (λ d.
    let p = total_put n k l R (omega arith) in
    let q : length (put k l R n) ≡ length (R n) = ap (length {A = ℕ}) (put_other k n l R d) in
    omega arith)

pub row_within : (n k : ℕ) (R : ℕ → List ℕ) → k < n → length (R k) ≤ total n R
row_within n k R h = let p = total_put n k [] R h in omega arith

-- ---- the links lead through the rows

pub walk_run : (fuel : ℕ) (m : List ℕ) (k h : ℕ) (l : List ℕ) → length l ≤ fuel → Run m k h l → walk fuel m h ≡ l
unfolding walk
walk_run zero m k h [] b r = refl
walk_run zero m k h (p ∷ l) b r = absurd (omega arith)
walk_run (suc fuel) m k h [] b r = rw (le-ltb h 32 r)
walk_run (suc fuel) m k h (p ∷ l) b r = rw (r.0, lt-ltb p 32 r.1, walk_run fuel m k (next m p) l (omega arith) r.4)

pub rows_found : (m : List ℕ) (R : ℕ → List ℕ) → Linked m R → total 67 R ≡ 32 → (k : ℕ) → k < 67 → row_of m k ≡ R k
unfolding row_of
rows_found m R v t k h = walk_run 32 m k (head m k) (R k) (let p = row_within 67 k R h in omega arith) (v.row k h).run

-- rows that are linked and hold every place are what the words show
pub shown : (m : List ℕ) (R : ℕ → List ℕ) → Linked m R → total 67 R ≡ 32 → SoundRows m
shown m R v t = record {
  linked = record { size = v.size; row = λ k h. subst (Row m k) (sym (rows_found m R v t k h)) (v.row k h) };
  every_place = total_same 67 (row_of m) R (rows_found m R v t) ∙ t;
}

module _ (m : List ℕ) (v : SoundRows m) where
  pub run_of : (k : ℕ) → k < 67 → Run m k (head m k) (row_of m k)
  run_of k h = (v.linked.row k h).run

  pub row_short : (k : ℕ) → k < 67 → length (row_of m k) ≤ 32
  row_short k h = let p = row_within 67 k (row_of m) h in let e = v.every_place in omega arith

  -- a row's head says whether it has a place
  pub row_none : (k : ℕ) → k < 67 → 32 ≤ head m k → row_of m k ≡ []
  row_none k lk h = go (row_of m k) (run_of k lk)
    where
      go : (l : List ℕ) → Run m k (head m k) l → l ≡ []
      go [] r = refl
      go (p ∷ l) r = absurd (omega (arith, r.0, r.1))

  pub row_some : (k : ℕ) → k < 67 → head m k < 32 → (l : List ℕ) × (row_of m k ≡ head m k ∷ l)
  row_some k lk h = go (row_of m k) (run_of k lk)
    where
      go : (l : List ℕ) → Run m k (head m k) l → (more : List ℕ) × (l ≡ head m k ∷ more)
      go [] r = absurd (omega (arith, r))
      go (p ∷ l) r = (l, ap (λ (z : ℕ). z ∷ l) (sym r.0))

-- what naming the first place of a row says of it, whatever the words hold
pub first_some : (m : List ℕ) (k p : ℕ) → as_place (head m k) ≡ Some p → (head m k ≡ p) × (p < 32)
first_some m k p = go (ltb (head m k) 32) refl
  where
    go : (c : Bool) → ltb (head m k) 32 ≡ c → cond c (Some (head m k)) None ≡ Some p → (head m k ≡ p) × (p < 32)
    go true l e = let z : head m k ≡ p = cc in (z, subst (λ x. x < 32) z (ltb-true (head m k) 32 l))
    go false l e = let z : ◌≡◌ {A = ℕ} 0 1 = cc in absurd (omega arith)

pub first_none : (m : List ℕ) (k : ℕ) → as_place (head m k) ≡ None → 32 ≤ head m k
first_none m k = go (ltb (head m k) 32) refl
  where
    go : (c : Bool) → ltb (head m k) 32 ≡ c → cond c (Some (head m k)) None ≡ None → 32 ≤ head m k
    go true l e = let z : ◌≡◌ {A = ℕ} 0 1 = cc in absurd (omega arith)
    go false l e = ltb-false (head m k) 32 l

-- ---- what is read at the places of a row

pub map_run : {A : Type 0} (m : List ℕ) (k h : ℕ) (f g : ℕ → A) (l : List ℕ) → ((x : ℕ) → x < 32 → owner m x ≡ k → f x ≡ g x) → Run m k h l → map f l ≡ map g l
map_run m k h f g [] e r = refl
map_run m k h f g (p ∷ l) e r = rw (e p r.1 r.2, map_run m k (next m p) f g l e r.4)

pub map_snoc : {A B : Type 0} (f : A → B) (l : List A) (x : A) → map f (l ++ (x ∷ [])) ≡ map f l ++ (f x ∷ [])
map_snoc f [] x = refl
map_snoc {B = B} f (y ∷ l) x = ap (λ (z : List B). f y ∷ z) (map_snoc f l x)
