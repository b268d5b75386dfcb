-- The code's way through the events is the table of ends. Assumes nothing.
use Rattle.std.specs.Prelude.{Ok, Err, if◌then◌else◌}
use Rattle.std.proofs.Common.{◌≡◌, ℕ, ◌<◌, ◌≤◌, Bool, true, false, refl, le-ltb, lt-ltb}
use Rattle.board.specs.Plain.{first_that_applies}
use Rattle.board.specs.Ending.{sense_looked_at, base, refusal_102, table_of_ends, base_status, end_by_event, implausible, ending_by, ending}
use Rattle.ends.specs.Types.{Active, Request, Event, AbortDone, SelectionTimeout, Parity, BusFree, Phase, AdapterError, Complete}
use Rattle.ends.specs.Model.{plainly, abort_done, completely, by_event}

-- a base status by two tests, then the end; or the end by two tests
by_marks : (asked overdue : Bool) (q : Request) (e : Event) (moved m n : ℕ)
    → ending_by q e moved (if asked then base m else if overdue then base n else refusal_102)
    ≡ (if asked then Ok (end_by_event m q e moved) else if overdue then Ok (end_by_event n q e moved) else Err (record {}))
unfolding ending_by
by_marks true overdue q e moved m n = refl
by_marks false true q e moved m n = refl
by_marks false false q e moved m n = refl

-- two rows of a table are one row with a choice
one_row : (test : Bool) (m n : ℕ) → (if test then base m else base n) ≡ base (if test then m else n)
one_row true m n = refl
one_row false m n = refl

pub too_many : (a : Active) (e : Event) (moved : ℕ) → 0x7FFFFFFF < moved → Err (record {}) ≡ ending a e moved
unfolding ending implausible
too_many a e moved h = rw (lt-ltb _ _ h)

pub table : (a : Active) (e : Event) (moved : ℕ) → moved ≤ 0x7FFFFFFF → by_event a moved e ≡ ending a e moved
unfolding ending implausible ending_by base_status table_of_ends first_that_applies end_by_event sense_looked_at by_event plainly abort_done completely
table a AbortDone moved h = rw (le-ltb _ _ h, by_marks a.asked a.overdue a.request AbortDone moved 0x02 0x0B)
table a SelectionTimeout moved h = rw (le-ltb _ _ h, one_row)
table a Parity moved h = rw (le-ltb _ _ h, one_row)
table a BusFree moved h = rw (le-ltb _ _ h, one_row)
table a Phase moved h = rw (le-ltb _ _ h, one_row)
table a AdapterError moved h = rw (le-ltb _ _ h, one_row)
table a (Complete scsi sense) moved h = simp (le-ltb _ _ h, one_row)
