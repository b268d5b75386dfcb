-- An event on the active request at a place: what it makes of the words. Assumes nothing.
use Rattle.std.specs.Prelude.{◌≡◌, ℕ, Bool, not, List, Option, Result, Ok, Err}
use Rattle.board.specs.declared.Event.{Event}
use Rattle.board.specs.declared.Told.{Told}
use Rattle.board.specs.declared.Implausible.{Implausible}
use Rattle.board.specs.declared.Unreported.{Unreported}
use Rattle.board.specs.declared.Unreported.TheVariants as unreported
use Rattle.board.specs.Plain.{◌=?◌}
use Rattle.board.specs.Ending.{ending}
use Rattle.ends.specs.declared.Closed.{Closed}
use Rattle.ends.specs.Closing.{capped, closed}
use Rattle.desk.specs.Words.{freeze_at, ToldFits, finished_words, frozen_if, unit_at}
use Rattle.desk.specs.View.{active_at}

-- what the event makes of the request, its unit being frozen before or not
unfoldable pub closing_of : List ℕ → (place : ℕ) → Event → (moved : ℕ) → Result Closed Implausible
closing_of m p e moved = closed (ending (capped (active_at m p)) e moved) (not (freeze_at m (unit_at m p) =? 0))

-- from m to m', the request standing at p after q
pub data Reported (m m' : List ℕ) (q : Option ℕ) (p : ℕ) : Result Closed Implausible → Result Unit Unreported → Type 0 where
  refused_event : m' ≡ m → Reported m m' q p (Err (record {})) (Err unreported.Implausible)
  ended_event : (x : Told) (b : Bool) → m' ≡ frozen_if (finished_words m 2 q p x) (unit_at m p) b → ToldFits x → Reported m m' q p (Ok (record { told = x; bad = b })) (Ok tt)
