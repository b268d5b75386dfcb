-- The walk along a row, a place at a time. Assumes nothing.
use Prim.Native.Nat.{ℕ, zero, suc, ◌-◌, ◌<◌, ◌≤◌}
use native.Mathlib.Omega.{arith}
use mathlib.Core.Path.{◌≡◌, refl, ap}
use mathlib.Core.Logic.{◌≢◌}
use mathlib.Core.List.{List, [], ◌∷◌}
use mathlib.Core.Bool.{Bool, true, false, cond}
use lib.Dec.{ltb}
use borrow.Author.Tests.{le-ltb, lt-ltb, eq-eqb, ne_eqb}
use lib.ListN.{length}
use Rattle.rows.specs.Words.{next, head, ticket_at}
use Rattle.rows.specs.Rows.{walk, row_of}
use Rattle.rows.specs.Searches.{spot, seek_along}
use Rattle.std.specs.Prelude.{Option, Some}

pub walk_none : (m : List ℕ) (n h : ℕ) → n ≡ 0 → walk n m h ≡ []
unfolding walk
walk_none m n h e = ap (λ n. walk n m h) e

pub walk_end : (m : List ℕ) (n h : ℕ) → 32 ≤ h → walk n m h ≡ []
unfolding walk
walk_end m zero h e = refl
walk_end m (suc n) h e = rw (le-ltb h 32 e)

pub walk_more : (m : List ℕ) (n h : ℕ) → n ≢ 0 → h < 32 → walk n m h ≡ h ∷ walk (n - 1) m (next m h)
unfolding walk
walk_more m zero h n e = absurd (n refl)
walk_more m (suc k) h n e = rw (lt-ltb h 32 e) (ap (λ j. h ∷ walk j m (next m h)) (less k))
  where
    less : (k : ℕ) → k ≡ suc k - 1
    less k = omega arith

walk_short : (m : List ℕ) (n h : ℕ) → length (walk n m h) ≤ n
unfolding walk
walk_short m zero h = omega arith
walk_short m (suc n) h = go (ltb h 32) (walk_short m n (next m h))
  where
    go : (c : Bool) → length (walk n m (next m h)) ≤ n → length (cond c (h ∷ walk n m (next m h)) []) ≤ suc n
    go true i = omega arith
    go false i = omega arith

pub row_of_short : (m : List ℕ) (k : ℕ) → length (row_of m k) ≤ 32
unfolding row_of
row_of_short m k = walk_short m 32 (head m k)

-- ---- a search, a place at a time

pub seek_here : (m : List ℕ) (t : ℕ) (q : Option ℕ) (p : ℕ) (l : List ℕ) → ticket_at m p ≡ t → seek_along m t q (p ∷ l) ≡ Some (spot q p)
unfolding seek_along
seek_here m t q p l e = rw (eq-eqb (ticket_at m p) t e)

pub seek_on : (m : List ℕ) (t : ℕ) (q : Option ℕ) (p : ℕ) (l : List ℕ) → ticket_at m p ≢ t → seek_along m t q (p ∷ l) ≡ seek_along m t (Some p) l
unfolding seek_along
seek_on m t q p l e = rw (ne_eqb (ticket_at m p) t e)
