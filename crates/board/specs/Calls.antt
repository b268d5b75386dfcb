-- The other calls, and all of them together: `step` and `run`. Assumes nothing.
use Rattle.std.specs.Prelude.{Bool, not, ◌&&◌, ◌||◌, List, [], ◌∷◌, map, ℕ, suc, ◌+◌, ◌-◌, ◌%◌, ◌^◌, length, if◌then◌else◌, Option, None, Some}
use Rattle.board.specs.Types.{Ticket, Unit, Request, Active, Finished, Event}
use Rattle.board.specs.Plain.{◌=?◌, ◌<?◌}
use Rattle.board.specs.Board.{same_ticket, units, find, without, by_ticket, ticket_of_active, Freeze, freeze_number, one_freeze, one_release, Board, frozen, all_waiting, with_waiting, with_active, with_finished, with_freeze, with_clock}
use Rattle.board.specs.Block.{whole_block, four, with_told}
use Rattle.board.specs.Answers.{Answer, refused, done, before, time, first, empty, handed, Stepped, says}
use Rattle.board.specs.TakingIn.{taking_in}
use Rattle.board.specs.Sending.{sending}
use Rattle.board.specs.Ending.{end_unmoved, to_finished, ended_active, reporting}

-- ---- abort by ticket

-- Waiting ends at once with 02h, residual the whole data length, and doesn't freeze.
unfoldable pub ended_waiting : Request → Board → Board
ended_waiting q b =
    to_finished q (end_unmoved 0x02 q) (frozen b q.unit)
    (with_waiting q.unit (without (λ r. r.ticket) q.ticket (b.waiting q.unit)) b)

abbrev pub ask : Ticket → Active → Active
ask t a = record { request = a.request; start = a.start; asked = a.asked || same_ticket (ticket_of_active a) t; overdue = a.overdue }

-- Active is marked asked (again: the same answer, no change). Finished or unknown: refusal 03h, no change.
unfoldable pub asked : Board → Ticket → Option Active → Stepped
asked b t (Some a) = says (with_active (map (ask t) b.active) b) done
asked b t None = says b (refused 0x03)

unfoldable pub aborted : Board → Ticket → Option Request → Stepped
aborted b t (Some q) = says (ended_waiting q b) done
aborted b t None = asked b t (find ticket_of_active t b.active)

unfoldable pub aborting : Board → Ticket → Stepped
aborting b t = aborted b t (find (λ q. q.ticket) t (all_waiting b))

-- ---- freeze, release of a unit: answer 1 if it was frozen before, else 0

unfoldable pub freezing : (Freeze → Freeze) → Board → Unit → Stepped
freezing change b u =
    if u.0 <? units then says (with_freeze u (change (b.freezes u)) b) (before (freeze_number (b.freezes u)))
    else says b (refused 103)

-- ---- tick

-- seconds from start to now, modulo 2^32
abbrev pub seconds_since : (start now : ℕ) → ℕ
seconds_since start now = (now + (2 ^ 32 - start)) % 2 ^ 32

-- Its seconds since its start exceed its timeout. Timeout 0 means 30 (house); FFFFFFFFh never ends. Time counts from sending.
unfoldable pub late : (now : ℕ) → Active → Bool
late now a =
    let timeout : ℕ = a.request.timeout in
    not (timeout =? 0xFFFFFFFF) && (if timeout =? 0 then 30 else timeout) <? seconds_since a.start now

-- overdue, and stays so
abbrev pub time_passed : (now : ℕ) → Active → Active
time_passed now a = record { request = a.request; start = a.start; asked = a.asked; overdue = a.overdue || late now a }

-- The clock counts seconds in 32 bits and goes round from FFFFFFFFh to 0. After the step, each active request that is late is
-- overdue.
unfoldable pub ticking : Board → Stepped
ticking b =
    let now : ℕ = suc b.clock % 2 ^ 32 in
    says (with_active (map (time_passed now) b.active) (with_clock now b)) (time now)

-- ---- bus reset

-- one after the other, each with 0Eh, whatever its marks, residual the whole data length
unfoldable pub all_ended : List Active → Board → Board
all_ended [] b = b
all_ended (a ∷ more) b = all_ended more (ended_active a.request (end_unmoved 0x0E a.request) b)

-- Every active request ends, smallest ticket first. Waiting ones stay.
unfoldable pub resetting : Board → Stepped
resetting b = says (all_ended (by_ticket ticket_of_active b.active) (with_active [] b)) done

-- ---- the finished line

-- First ticket, address, callback and whether callback is wanted, or "empty".
unfoldable pub first_of : Board → List Finished → Stepped
first_of b [] = says b empty
first_of b (x ∷ more) = says b (first x.request.ticket x.request.address x.request.callback x.request.wanted)

unfoldable pub looking : Board → Stepped
looking b = first_of b b.finished

-- 105: fewer than 88 bytes lent, or bytes 0 to 3 not the first one's address
unfoldable pub not_its_block : List ℕ → Finished → Bool
not_its_block s x = length s <? whole_block || not (four 0 s =? x.request.address)

-- Hand back with a lent block: writes bytes 7, 52, 53 and 56 to 59 and no others, and removes the first finished request.
-- 104 before 105.
unfoldable pub first_to : Board → List ℕ → List Finished → Stepped
first_to b s [] = record { board = b; answer = refused 104; lent = s }
first_to b s (x ∷ more) =
    if not_its_block s x then record { board = b; answer = refused 105; lent = s }
    else record { board = with_finished more b; answer = handed x.request.ticket x.told; lent = with_told x.told s }

unfoldable pub handing_back : Board → List ℕ → Stepped
handing_back b s = first_to b s b.finished

-- ---- all of them

pub data Call : Type 0 where
  take_in : (lent : List ℕ) → Call
  send : Call
  event : Ticket → Event → (moved : ℕ) → Call
  abort : Ticket → Call
  freeze release : Unit → Call
  tick reset look : Call
  hand_back : (lent : List ℕ) → Call

unfoldable pub step : Board → Call → Stepped
step b (take_in s) = taking_in b s
step b send = sending b
step b (event t e moved) = reporting b t e moved
step b (abort t) = aborting b t
step b (freeze u) = freezing one_freeze b u
step b (release u) = freezing one_release b u
step b tick = ticking b
step b reset = resetting b
step b look = looking b
step b (hand_back s) = handing_back b s

pub record Ran : Type 0 where
  pub board : Board
  pub answers : List Answer
  pub blocks : List (List ℕ)

-- one call after the other: the board at the end, each answer, and each lent block's bytes
unfoldable pub run : Board → List Call → Ran
run b [] = record { board = b; answers = []; blocks = [] }
run b (c ∷ more) =
    let s = step b c in
    let r = run s.board more in
    record { board = r.board; answers = s.answer ∷ r.answers; blocks = s.lent ∷ r.blocks }
