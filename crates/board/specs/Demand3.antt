-- Demand 3: what is said of every run of calls on a fresh board, and of every freeze, release and send. proofs/Demand3.antt proves
-- it. Assumes nothing.
use Rattle.std.specs.Prelude.{◌≡◌, ◌≢◌, true, false, List, [], ◌∷◌, ◌++◌, map, ℕ, ◌+◌, ◌≤◌, ◌<◌, length, Ok, if◌then◌else◌, Some}
use Rattle.board.specs.Types.{Ticket, Unit, Cdb, Active, Event, End}
use Rattle.board.specs.Plain.{count, Each}
use Rattle.board.specs.Board.{same_unit, same_ticket, units, find, ticket_of_active, Board, fresh, frozen, all_waiting}
use Rattle.board.specs.Answers.{Answer, refused, taken, sent, nothing, done, before, time, first, empty, handed}
use Rattle.board.specs.Sending.{busy}
use Rattle.board.specs.Ending.{ending}
use Rattle.board.specs.Calls.{Call, send, event, freeze, release, reset, step, Ran, run}

-- ---- every ticket ever accepted stands in exactly one place

-- the ticket that an answer gives
unfoldable pub given_by : Answer → List Ticket
given_by (taken t) = t ∷ []
given_by (refused n) = []
given_by (sent t u cdb n) = []
given_by (nothing n) = []
given_by done = []
given_by (before n) = []
given_by (time n) = []
given_by (first t address callback wanted) = []
given_by empty = []
given_by (handed t x) = []

-- the ticket that an answer hands back
unfoldable pub handed_by : Answer → List Ticket
handed_by (handed t x) = t ∷ []
handed_by (refused n) = []
handed_by (taken t) = []
handed_by (sent t u cdb n) = []
handed_by (nothing n) = []
handed_by done = []
handed_by (before n) = []
handed_by (time n) = []
handed_by (first t address callback wanted) = []
handed_by empty = []

-- the tickets accepted, and those handed back, counted from the answers
unfoldable pub accepted : List Answer → List Ticket
accepted [] = []
accepted (a ∷ more) = given_by a ++ accepted more

unfoldable pub handed_back : List Answer → List Ticket
handed_back [] = []
handed_back (a ∷ more) = handed_by a ++ handed_back more

-- the tickets in the other three places
abbrev pub waiting_tickets : Board → List Ticket
waiting_tickets b = map (λ q. q.ticket) (all_waiting b)

abbrev pub active_tickets : Board → List Ticket
active_tickets b = map ticket_of_active b.active

abbrev pub finished_tickets : Board → List Ticket
finished_tickets b = map (λ x. x.request.ticket) b.finished

-- how often the ticket stands in the list
abbrev pub times : Ticket → List Ticket → ℕ
times t l = count (λ s. same_ticket s t) l

-- A ticket is accepted once at most, and stands as often in the four places together as it was accepted: so one that was
-- accepted stands in exactly one of them, and no other stands anywhere. It is handed back once at most. The sum of the four
-- is the number of those accepted. What waits, waits on its own unit.
pub record Accounted (r : Ran) : Type 0 where
  pub accepted_once : (t : Ticket) → times t (accepted r.answers) ≤ 1
  pub placed :
      (t : Ticket)
      → times t (accepted r.answers)
      ≡ times t (waiting_tickets r.board) + times t (active_tickets r.board) + times t (finished_tickets r.board) + times t (handed_back r.answers)
  pub handed_back_once : (t : Ticket) → times t (handed_back r.answers) ≤ 1
  pub sum :
      length (accepted r.answers)
      ≡ length (waiting_tickets r.board) + length (active_tickets r.board) + length (finished_tickets r.board) + length (handed_back r.answers)
  pub own_unit : (u : Unit) → Each (λ q. q.unit ≡ u) (r.board.waiting u)

-- ---- between a unit's freeze and its release nothing is sent for it

-- The call freezes the unit: by call; by a bad end, that is an event that ends the unit's active request with a base status
-- other than 01h; or, a bad end too, by a bus reset while the unit has an active request.
pub data Freezes (b : Board) (u : Unit) : Call → Type 0 where
  by_call : u.0 < units → Freezes b u (freeze u)
  by_bad_end :
      (t : Ticket) (a : Active) (e : Event) (moved : ℕ) (x : End)
      → find ticket_of_active t b.active ≡ Some a
      → a.request.unit ≡ u
      → ending a e moved ≡ Ok x
      → x.base ≢ 0x01
      → Freezes b u (event t e moved)
  by_reset : busy u b.active ≡ true → Freezes b u reset

abbrev pub NotARelease : Unit → Call → Type 0
NotARelease u c = c ≢ release u

abbrev pub NotSentFor : Unit → Answer → Type 0
NotSentFor u a = (t : Ticket) (cdb : Cdb) (looked : ℕ) → a ≢ sent t u cdb looked

-- ---- freezing or releasing alters no other unit's records

-- the active requests of a unit
unfoldable pub active_on : Unit → List Active → List Active
active_on u [] = []
active_on u (a ∷ more) = if same_unit a.request.unit u then a ∷ active_on u more else active_on u more

-- the two boards have the same records of the unit: its order of waiting, its active requests, its freeze
pub record SameRecords (u : Unit) (b c : Board) : Type 0 where
  pub waiting : c.waiting u ≡ b.waiting u
  pub active : active_on u c.active ≡ active_on u b.active
  pub freeze : c.freezes u ≡ b.freezes u

-- the second board holds what the first does, but for u's freeze
pub record SameButFreeze (u : Unit) (b c : Board) : Type 0 where
  pub waiting : (v : Unit) → c.waiting v ≡ b.waiting v
  pub active : c.active ≡ b.active
  pub finished : c.finished ≡ b.finished
  pub freezes : (v : Unit) → v ≢ u → c.freezes v ≡ b.freezes v
  pub clock : c.clock ≡ b.clock
  pub mark : c.mark ≡ b.mark
  pub given : c.given ≡ b.given

-- ---- each send picks what it would pick if the frozen units' waiting requests weren't there

-- the board without the frozen units' waiting requests
unfoldable pub thinned : Board → Board
thinned b = record {
  waiting = λ u. if frozen b u then [] else b.waiting u;
  active = b.active;
  finished = b.finished;
  freezes = b.freezes;
  clock = b.clock;
  mark = b.mark;
  given = b.given;
}

-- ---- all of it

pub record Demand3 : Type 0 where
  -- from a fresh board, after any sequence of calls, refused ones included
  pub accounted : (calls : List Call) → Accounted (run fresh calls)
  -- after such a sequence a call freezes the unit; in the calls after it, none of them its release, nothing is sent for it
  pub quiet :
      (earlier : List Call) (u : Unit) (c : Call) (later : List Call)
      → Freezes (run fresh earlier).board u c
      → Each (NotARelease u) later
      → Each (NotSentFor u) (run (step (run fresh earlier).board c).board later).answers
  -- what follows holds on every board, so on each that such a sequence makes
  pub freeze_alone : (b : Board) (u : Unit) → SameButFreeze u b (step b (freeze u)).board
  pub release_alone : (b : Board) (u : Unit) → SameButFreeze u b (step b (release u)).board
  -- an event alters the records of no unit but its request's; a bus reset those of no unit without an active request
  pub event_alone :
      (b : Board) (t : Ticket) (e : Event) (moved : ℕ) (a : Active) (v : Unit)
      → find ticket_of_active t b.active ≡ Some a
      → v ≢ a.request.unit
      → SameRecords v b (step b (event t e moved)).board
  pub reset_alone : (b : Board) (v : Unit) → busy v b.active ≡ false → SameRecords v b (step b reset).board
  -- the same answer, and the same request becomes active: the board afterwards is the other board afterwards, thinned
  pub same_answer : (b : Board) → (step (thinned b) send).answer ≡ (step b send).answer
  pub same_pick : (b : Board) → (step (thinned b) send).board ≡ thinned (step b send).board
