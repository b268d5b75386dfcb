-- Eligibility and the rotation: the loop a step at a time, and that the words' test is the board's. Assumes nothing.
use Rattle.std.proofs.Common.{◌≡◌, ℕ, zero, suc, ◌+◌, ◌-◌, ◌%◌, ◌<◌, ◌≤◌, Bool, true, false, not, ◌||◌, eqb, List, [], ◌∷◌, map, refl, ap, ◌∙◌, mod-lt, arith, lit<}
use Rattle.std.specs.Prelude.{Some, None, is_some, ◌==◌}
use Rattle.std.specs.List.{list_any}
use Rattle.rows.specs.Rows.{walk}
use Rattle.rows.proofs.Walks.{walk_end}
use lib.Dec.{ltb}
use mathlib.Core.Bool.{cond}
use Rattle.std.specs.Prelude.{◌&&◌}
use borrow.Author.Tests.{ltb-false, lt-ltb, le-ltb}
use Rattle.board.specs.declared.Unit.{Unit}
use Rattle.board.specs.Plain.{any}
use Rattle.board.specs.Board.{the_unit, units, is_frozen}
use Rattle.board.specs.Sending.{waits, busy, eligible, after, found, rotation}
use Rattle.rows.specs.Words.{head, as_place}
use Rattle.rows.specs.Rows.{Run, row_of}
use Rattle.rows.proofs.Shown.{run_of}
use Rattle.desk.specs.Words.{freeze_at, unit_at, has_active, can_send}
use Rattle.desk.specs.View.{request_at, active_at, Rest, view, Valid}
use Rattle.desk.proofs.Views.{waiting_on, freeze_on}
use Rattle.desk.proofs.Freezes.{frozen_back}

-- ---- the rotation, a step at a time: after n - 1 units 65 - n are left

module _ (able : Unit → Bool) (mark : Unit) (n : ℕ) where
  pub rotation_over : 64 < n → rotation able mark (65 - n) n ≡ None
  unfolding rotation
  rotation_over h = let e : 65 - n ≡ 0 = omega arith in ap (λ z. rotation able mark z n) e

  pub rotation_stop : n ≤ 64 → able (after mark n) ≡ true → rotation able mark (65 - n) n ≡ Some (found (after mark n) n)
  unfolding rotation
  rotation_stop h t = let e : 65 - n ≡ suc (65 - (n + 1)) = omega arith in ap (λ z. rotation able mark z n) e ∙ rw t

  pub rotation_next : n ≤ 64 → able (after mark n) ≡ false → rotation able mark (65 - n) n ≡ rotation able mark (65 - (n + 1)) (n + 1)
  unfolding rotation
  rotation_next h t =
      let e : 65 - n ≡ suc (65 - (n + 1)) = omega arith in
      let d : suc n ≡ n + 1 = omega arith in
      ap (λ z. rotation able mark z n) e ∙ rw t (ap (rotation able mark (65 - (n + 1))) d)

-- two tests that agree on the units find the same
pub rotation_same : (able can : Unit → Bool) (mark : Unit) (fuel n : ℕ) → ((u : ℕ) → u < units → able (the_unit u) ≡ can (the_unit u)) → rotation able mark fuel n ≡ rotation can mark fuel n
unfolding rotation
rotation_same able can mark zero n e = refl
rotation_same able can mark (suc fuel) n e = rw (e ((mark.0 + n) % 64) (mod-lt (mark.0 + n) (lit< tt)), rotation_same able can mark fuel (suc n) e)

-- ---- the words' test is the board's

busy_places : (m : List ℕ) (u : ℕ) (l : List ℕ) → busy (the_unit u) (map (active_at m) l) ≡ list_any (λ p. unit_at m p == u) l
unfolding busy any
busy_places m u [] = refl
busy_places m u (p ∷ l) = ap (λ c. (unit_at m p == u) || c) (busy_places m u l)

busy_words : (m : List ℕ) (r : Rest) (u : ℕ) → busy (the_unit u) (view m r).active ≡ has_active m u
unfolding view has_active
busy_words m r u = busy_places m u (row_of m 2)

-- a row is empty where its head says so
waits_run : (m : List ℕ) (k : ℕ) (l : List ℕ) → Run m k (head m k) l → waits (map (request_at m) l) ≡ is_some (as_place (head m k))
waits_run m k [] r = rw (le-ltb (head m k) 32 r)
waits_run m k (p ∷ l) r = rw (lt-ltb (head m k) 32 (omega (arith, r.0, r.1)))

not_not : (c : Bool) → not (not c) ≡ c
not_not true = refl
not_not false = refl

pub eligible_words : (m : List ℕ) (r : Rest) → Valid m r → (u : ℕ) → u < units → eligible (view m r) (the_unit u) ≡ can_send m (the_unit u)
unfolding eligible can_send
eligible_words m r v u h =
    rw (
      ap waits (waiting_on m r (the_unit u) h) ∙ waits_run m (3 + u) (row_of m (3 + u)) (run_of m v.rows (3 + u) (omega arith)),
      ap (λ x. not (is_frozen x)) (freeze_on m r (the_unit u) h) ∙ (ap not (frozen_back (freeze_at m u)) ∙ not_not (eqb (freeze_at m u) 0)),
      busy_words m r u,
    )

-- a row without a first place has none at all
pub any_first : (m : List ℕ) (k : ℕ) (f : ℕ → Bool) → list_any f (row_of m k) ≡ (is_some (as_place (head m k)) && list_any f (row_of m k))
unfolding row_of
any_first m k f = go (ltb (head m k) 32) refl
  where
    go : (c : Bool) → ltb (head m k) 32 ≡ c → list_any f (walk 32 m (head m k)) ≡ (is_some (cond c (Some (head m k)) None) && list_any f (walk 32 m (head m k)))
    go true e = refl
    go false e = rw (walk_end m 32 (head m k) (ltb-false (head m k) 32 e))
