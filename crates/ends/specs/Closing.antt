-- What an event makes of an active request, for the caller of `close`. Assumes nothing.
use Rattle.std.specs.Prelude.{ℕ, ◌%◌, Bool, not, ◌||◌, Result, Ok, Err}
use Rattle.ends.specs.Types.{Request, Active, End, Implausible, Closed}
use Rattle.board.specs.Plain.{◌=?◌}
use Rattle.board.specs.Ending.{told}

-- The data length as 24 bits, which a request that was taken in has anyway: so the residual fits whatever was passed.
unfoldable pub capped_request : Request → Request
capped_request q = record { ticket = q.ticket; unit = q.unit; address = q.address; callback = q.callback; wanted = q.wanted; length = q.length % 0x1000000; sense = q.sense; autosense = q.autosense; timeout = q.timeout; cdb = q.cdb }

unfoldable pub capped : Active → Active
capped a = record { request = capped_request a.request; start = a.start; asked = a.asked; overdue = a.overdue }

-- A request that was active and ends with base status other than 01h freezes its unit.
abbrev pub bad : (status : ℕ) → Bool
bad n = not (n =? 0x01)

-- what a block is told of an end, its unit frozen before or not, and whether the end freezes the unit
unfoldable pub closed : Result End Implausible → (frozen : Bool) → Result Closed Implausible
closed (Ok e) frozen = Ok (record { told = told e (frozen || bad e.base); bad = bad e.base })
closed (Err why) frozen = Err why
