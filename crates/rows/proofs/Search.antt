-- What the searches along a row find, said of the places. Assumes nothing.
use Prim.Native.Nat.{ℕ, ◌≤◌, min}
use native.Mathlib.Omega.{arith}
use mathlib.Core.Path.{◌≡◌, refl, sym, ap, subst}
use mathlib.Core.Logic.{◌≢◌}
use mathlib.Core.List.{List, [], ◌∷◌, ◌++◌, map}
use mathlib.Core.Bool.{Bool, true, false, cond}
use borrow.Author.Tests.{eqb-true, eqb-false}
use lib.Dec.{eqb}
use Rattle.std.specs.Prelude.{Option, None, Some, option_map}
use Rattle.std.specs.List.{fold, reduce}
use Rattle.board.specs.declared.Ticket.{Ticket}
use Rattle.board.specs.Board.{the_ticket}
use Rattle.board.specs.Plain.{Each}
use Rattle.rows.specs.declared.Spot.{Spot}
use Rattle.rows.specs.Words.{ticket_at}
use Rattle.rows.specs.Rows.{row_of}
use Rattle.rows.specs.Searches.{spot, seek_along, spot_of, smallest_ticket}

-- ---- by ticket

-- the last of the places a, or q where there are none
abbrev pub last_of : Option ℕ → List ℕ → Option ℕ
last_of q [] = q
last_of q (x ∷ a) = last_of (Some x) a

-- p is the first place of l with ticket t, after a, whose last is the one before it; or no place of l has it
pub data Seeks (m : List ℕ) (t : ℕ) (q : Option ℕ) (l : List ℕ) : Option Spot → Type 0 where
  seeks_at : (a b : List ℕ) (q' : Option ℕ) (p : ℕ) → l ≡ a ++ (p ∷ b) → q' ≡ last_of q a → ticket_at m p ≡ t → Each (λ x. ticket_at m x ≢ t) a → Seeks m t q l (Some (spot q' p))
  seeks_nowhere : Each (λ x. ticket_at m x ≢ t) l → Seeks m t q l None

-- one more place in front
seeks_more : (m : List ℕ) (t : ℕ) (q : Option ℕ) (x : ℕ) (l : List ℕ) (s : Option Spot) → ticket_at m x ≢ t → Seeks m t (Some x) l s → Seeks m t q (x ∷ l) s
unfolding Each
seeks_more m t q x l s n (seeks_at a b q' p e la k d) = seeks_at (x ∷ a) b q' p (ap (λ (o : List ℕ). x ∷ o) e) la k (n, d)
seeks_more m t q x l s n (seeks_nowhere d) = seeks_nowhere (n, d)

seeks : (m : List ℕ) (t : ℕ) (q : Option ℕ) (l : List ℕ) → Seeks m t q l (seek_along m t q l)
unfolding seek_along Each
seeks m t q [] = seeks_nowhere tt
seeks m t q (p ∷ l) = go (eqb (ticket_at m p) t) refl (seeks m t (Some p) l)
  where
    go : (c : Bool) → eqb (ticket_at m p) t ≡ c → Seeks m t (Some p) l (seek_along m t (Some p) l) → Seeks m t q (p ∷ l) (cond c (Some (spot q p)) (seek_along m t (Some p) l))
    go true e i = seeks_at [] l q p refl refl (eqb-true (ticket_at m p) t e) tt
    go false e i = seeks_more m t q p l _ (eqb-false (ticket_at m p) t e) i

pub seek_row : (m : List ℕ) (k t : ℕ) → Seeks m t None (row_of m k) (spot_of m k t)
seek_row m k t = seeks m t None (row_of m k)

-- ---- the smallest

module _ (f : ℕ → ℕ) where
  least_most : (best : ℕ) (l : List ℕ) → fold min best (map f l) ≤ best
  least_most best [] = omega arith
  least_most best (x ∷ l) = omega (arith, least_most (min best (f x)) l)

  least_each : (best : ℕ) (l : List ℕ) → Each (λ x. fold min best (map f l) ≤ f x) l
  unfolding Each
  least_each best [] = tt
  least_each best (x ∷ l) = (omega (arith, least_most (min best (f x)) l), least_each (min best (f x)) l)

  -- where it stands nowhere, it is what the search began with
  least_missed : (best : ℕ) (l : List ℕ) → Each (λ x. f x ≢ fold min best (map f l)) l → fold min best (map f l) ≡ best
  unfolding Each
  least_missed best [] d = refl
  least_missed best (x ∷ l) d = let e = least_missed (min best (f x)) l d.1 in let n = d.0 in omega arith

-- t is the smallest ticket of the places l: none is below it, and it stands there
pub record Smallest (m : List ℕ) (l : List ℕ) (t : Ticket) : Type 0 where
  pub least : Each (λ x. t.0 ≤ ticket_at m x) l
  pub stands : Each (λ x. ticket_at m x ≢ t.0) l → ⊥

pub smallest_row : (m : List ℕ) (k : ℕ) (t : Ticket) → smallest_ticket m k ≡ Some t → Smallest m (row_of m k) t
unfolding Each
smallest_row m k t = go (row_of m k)
  where
    go : (l : List ℕ) → option_map the_ticket (reduce min (map (ticket_at m) l)) ≡ Some t → Smallest m l t
    go [] e = let z : ◌≡◌ {A = ℕ} 0 1 = cc in absurd (omega arith)
    go (x ∷ l) e =
        let w : the_ticket (fold min (ticket_at m x) (map (ticket_at m) l)) ≡ t = cc in
        subst (Smallest m (x ∷ l)) w record {
          least = (least_most (ticket_at m) (ticket_at m x) l, least_each (ticket_at m) (ticket_at m x) l);
          stands = λ d. d.0 (sym (least_missed (ticket_at m) (ticket_at m x) l d.1));
        }

-- a row without one is empty
pub smallest_none : (m : List ℕ) (k : ℕ) → smallest_ticket m k ≡ None → row_of m k ≡ []
smallest_none m k = go (row_of m k)
  where
    go : (l : List ℕ) → option_map the_ticket (reduce min (map (ticket_at m) l)) ≡ None → l ≡ []
    go [] e = refl
    go (x ∷ l) e = let z : ◌≡◌ {A = ℕ} 0 1 = cc in absurd (omega arith)
