-- Numbers from outside: an event's code and a unit's number. Assumes nothing.
use Rattle.std.specs.Prelude.{Ok}
use Prim.Native.Nat.{ℕ, ◌≤◌, ◌<◌, min}
use native.Mathlib.Omega.{arith}
use mathlib.Core.Path.{◌≡◌, refl, ap}
use mathlib.Core.Bool.{false}
use Rattle.board.specs.Types.{Unit, Event, AbortDone, SelectionTimeout, Parity, BusFree, Phase, AdapterError, Complete}
use Rattle.board.specs.Plain.{◌≤?◌}
use Rattle.board.specs.Board.{Board, Freeze, the_unit, units, one_freeze, one_release}
use Rattle.board.specs.Calls.{freezing, freeze, release, step}
use Rattle.board.specs.Ending.{is_abort_done, is_complete, own_status, event_named}
use Rattle.board.proofs.Choose.{true≢false, by_cases, at_most, not_at_most, unless_below, one_unit}

-- an event that has a status of its own is named by it
pub named_by_its_status : (e : Event) → is_abort_done e ≡ false → is_complete e ≡ false → event_named (own_status e) ≡ Ok e
unfolding event_named
named_by_its_status AbortDone a c = true≢false a
named_by_its_status SelectionTimeout a c = refl
named_by_its_status Parity a c = refl
named_by_its_status BusFree a c = refl
named_by_its_status Phase a c = refl
named_by_its_status AdapterError a c = refl
named_by_its_status (Complete scsi sense) a c = true≢false c

-- a number above 255 and 255 itself are no units
any_unit : (change : Freeze → Freeze) (b : Board) (u : Unit) (n : ℕ) → u.0 ≡ min n 255 → freezing change b u ≡ freezing change b (the_unit n)
unfolding freezing
any_unit change b u n e = by_cases (n ≤? 255)
    (λ h. let l : n ≤ 255 = at_most h in let k : u.0 ≡ n = omega arith in ap (freezing change b) (one_unit k))
    (λ h. let l : 255 < n = not_at_most h in let k : u.0 ≡ 255 = omega arith in rw (unless_below {m = u.0} {n = units} (omega arith), unless_below {m = n} {n = units} (omega arith)) refl)

-- so that a freeze and a release by a number in 8 bits are those of the number itself
pub freeze_numbered : (u : Unit) (n : ℕ) → u.0 ≡ min n 255 → (b : Board) → step b (freeze u) ≡ step b (freeze (the_unit n))
unfolding step
freeze_numbered u n e b = any_unit one_freeze b u n e

pub release_numbered : (u : Unit) (n : ℕ) → u.0 ≡ min n 255 → (b : Board) → step b (release u) ≡ step b (release (the_unit n))
unfolding step
release_numbered u n e b = any_unit one_release b u n e
