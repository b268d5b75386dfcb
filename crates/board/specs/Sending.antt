-- Sending. Assumes nothing.
use Rattle.std.specs.Prelude.{Bool, true, false, not, ◌&&◌, List, [], ◌∷◌, ◌++◌, ℕ, zero, suc, ◌+◌, ◌%◌, Option, Some, None, length, if◌then◌else◌}
use Rattle.board.specs.Types.{Unit, Request, Active, Found}
use Rattle.board.specs.Plain.{◌≤?◌, any}
use Rattle.board.specs.Board.{the_unit, same_unit, units, most_active, Board, frozen, with_waiting, with_active, with_mark}
use Rattle.board.specs.Answers.{sent, nothing, Stepped, says}

-- something waits
abbrev pub waits : List Request → Bool
waits [] = false
waits (q ∷ more) = true

-- the unit has an active request
unfoldable pub busy : Unit → List Active → Bool
busy u l = any (λ a. same_unit a.request.unit u) l

-- A unit is eligible if something waits on it, it isn't frozen and it has none active.
unfoldable pub eligible : Board → Unit → Bool
eligible b u = waits (b.waiting u) && not (frozen b u) && not (busy u b.active)

-- the n-th unit after the mark, going round
abbrev pub after : (mark : Unit) → ℕ → Unit
after mark n = the_unit ((mark.0 + n) % units)

abbrev pub found : Unit → (looked : ℕ) → Found
found u n = record { unit = u; looked = n }

-- Look at `left` units, from the n-th after the mark on, and stop at the first eligible one, with how many units were
-- looked at.
unfoldable pub rotation : (Unit → Bool) → (mark : Unit) → (left n : ℕ) → Option Found
rotation able mark zero n = None
rotation able mark (suc left) n = if able (after mark n) then Some (found (after mark n) n) else rotation able mark left (suc n)

-- The unit's first waiting request becomes active, its start is the clock, the mark becomes that unit.
abbrev pub sent_from : Unit → Request → (more : List Request) → Board → Board
sent_from u q more b =
    with_mark u (with_waiting u more (with_active (b.active ++ (record { request = q; start = b.clock; asked = false; overdue = false } ∷ [])) b))

-- The answer holds ticket, unit, the 12 CDB bytes as accepted, and how many units were looked at (1 to 64). (On an eligible unit
-- something waits, so the first line is never reached; see Sends.antt.)
unfoldable pub sent_first : Board → Unit → (looked : ℕ) → List Request → Stepped
sent_first b u looked [] = says b (nothing looked)
sent_first b u looked (q ∷ more) = says (sent_from u q more b) (sent q.ticket u q.cdb looked)

-- If none is eligible: "nothing", looked at 64, board unchanged.
unfoldable pub sent_by : Board → Option Found → Stepped
sent_by b None = says b (nothing units)
sent_by b (Some x) = sent_first b x.unit x.looked (b.waiting x.unit)

-- With 8 active the answer is "nothing", looked at 0, board unchanged. Otherwise look at units from mark + 1 round to the
-- mark itself.
unfoldable pub sending : Board → Stepped
sending b =
    if most_active ≤? length b.active then says b (nothing 0)
    else sent_by b (rotation (eligible b) b.mark units 1)
