-- What the board holds. Assumes nothing.
use Rattle.std.specs.Prelude.{Bool, true, false, List, [], ◌∷◌, ◌++◌, map, ℕ, zero, suc, ◌+◌, ◌*◌, if◌then◌else◌, Option, None, Some}
use Rattle.board.specs.Types.{Ticket, Unit, Request, Active, Finished}
use Rattle.board.specs.Plain.{◌=?◌, ◌<?◌}

-- ---- units and tickets

abbrev pub the_unit : ℕ → Unit
the_unit n = record { 0 = n }

abbrev pub the_ticket : ℕ → Ticket
the_ticket n = record { 0 = n }

abbrev pub same_unit : Unit → Unit → Bool
same_unit u v = u.0 =? v.0

abbrev pub same_ticket : Ticket → Ticket → Bool
same_ticket s t = s.0 =? t.0

-- A unit is target x 8 + LUN, 0 to 63.
abbrev pub unit_of : (target lun : ℕ) → Unit
unit_of target lun = the_unit (target * 8 + lun)

abbrev pub units : ℕ
units = 64

-- f changed at one unit
abbrev pub at : {A : Type 0} → Unit → A → (Unit → A) → Unit → A
at u x f v = if same_unit v u then x else f v

-- the lists of units 0, 1 and so on, n of them, end to end
unfoldable pub of_units : {A : Type 0} → (n : ℕ) → (Unit → List A) → List A
of_units zero f = []
of_units (suc n) f = of_units n f ++ f (the_unit n)

-- Lists of things that have a ticket: the first one with the ticket t; the list without it; the list in order of
-- tickets, smallest first.
module _ {A : Type 0} (ticket_of : A → Ticket) where
  unfoldable pub find : Ticket → List A → Option A
  find t [] = None
  find t (x ∷ xs) = if same_ticket (ticket_of x) t then Some x else find t xs

  unfoldable pub without : Ticket → List A → List A
  without t [] = []
  without t (x ∷ xs) = if same_ticket (ticket_of x) t then xs else x ∷ without t xs

  unfoldable pub insert : A → List A → List A
  insert y [] = y ∷ []
  insert y (x ∷ xs) = if (ticket_of y).0 <? (ticket_of x).0 then y ∷ x ∷ xs else x ∷ insert y xs

  unfoldable pub by_ticket : List A → List A
  by_ticket [] = []
  by_ticket (x ∷ xs) = insert x (by_ticket xs)

-- what an active request's ticket is; and the two lengths of a request, under document 01's names
abbrev pub ticket_of_active : Active → Ticket
ticket_of_active a = a.request.ticket

abbrev pub data_length : Request → ℕ
data_length q = q.length

abbrev pub sense_length : Request → ℕ
sense_length q = q.sense

-- ---- limits

-- There are 32 places for live requests (house) ..
unfoldable pub places : ℕ
places = 32

-- .. and at most 8 active at once, one per unit (house).
unfoldable pub most_active : ℕ
most_active = 8

-- Tickets are 32-bit, from 1 upwards, each given once.
abbrev pub last_ticket : ℕ
last_ticket = 0xFFFFFFFF

-- ---- the freeze of a unit: frozen or not. Only these six names look inside; proofs/Freezes.antt has their laws.

unfoldable pub Freeze : Type 0
Freeze = Bool

-- at first
unfoldable pub no_freeze : Freeze
unfolding Freeze
no_freeze = false

unfoldable pub is_frozen : Freeze → Bool
unfolding Freeze
is_frozen x = x

-- what a freeze or a release answers of it: 1 if it was frozen before, else 0
unfoldable pub freeze_number : Freeze → ℕ
unfolding Freeze
freeze_number x = if x then 1 else 0

-- after one freeze more
unfoldable pub one_freeze : Freeze → Freeze
unfolding Freeze
one_freeze x = true

-- after one release
unfoldable pub one_release : Freeze → Freeze
unfolding Freeze
one_release x = false

-- ---- the board

-- For each unit one order of waiting, first to go first; the active requests; one line of finished requests; for each unit its
-- freeze; a clock; a rotation mark; and the last ticket given, 0 where none was. (The active ones stand in the order of sending.
-- That order is ours: no answer depends on it.)
pub record Board : Type 0 where
  pub waiting : Unit → List Request
  pub active : List Active
  pub finished : List Finished
  pub freezes : Unit → Freeze
  pub clock : ℕ
  pub mark : Unit
  pub given : ℕ

-- A fresh board is empty, no unit frozen, clock 0, mark 63.
unfoldable pub fresh : Board
fresh = record {
  waiting = λ u. [];
  active = [];
  finished = [];
  freezes = λ u. no_freeze;
  clock = 0;
  mark = the_unit 63;
  given = 0;
}

-- the unit is frozen
abbrev pub frozen : Board → Unit → Bool
frozen b u = is_frozen (b.freezes u)

-- every waiting request, unit by unit
abbrev pub all_waiting : Board → List Request
all_waiting b = of_units units b.waiting

-- every live request: waiting, active or finished
unfoldable pub live : Board → List Request
live b = all_waiting b ++ (map (λ a. a.request) b.active ++ map (λ x. x.request) b.finished)

-- the ticket that the next request gets
abbrev pub next_ticket : Board → Ticket
next_ticket b = the_ticket (suc b.given)

-- ---- the board with one thing changed

abbrev pub with_waiting : Unit → List Request → Board → Board
with_waiting u l b = record { waiting = at u l b.waiting; active = b.active; finished = b.finished; freezes = b.freezes; clock = b.clock; mark = b.mark; given = b.given }

abbrev pub with_active : List Active → Board → Board
with_active l b = record { waiting = b.waiting; active = l; finished = b.finished; freezes = b.freezes; clock = b.clock; mark = b.mark; given = b.given }

abbrev pub with_finished : List Finished → Board → Board
with_finished l b = record { waiting = b.waiting; active = b.active; finished = l; freezes = b.freezes; clock = b.clock; mark = b.mark; given = b.given }

abbrev pub with_freeze : Unit → Freeze → Board → Board
with_freeze u x b = record { waiting = b.waiting; active = b.active; finished = b.finished; freezes = at u x b.freezes; clock = b.clock; mark = b.mark; given = b.given }

abbrev pub with_clock : ℕ → Board → Board
with_clock n b = record { waiting = b.waiting; active = b.active; finished = b.finished; freezes = b.freezes; clock = n; mark = b.mark; given = b.given }

abbrev pub with_mark : Unit → Board → Board
with_mark u b = record { waiting = b.waiting; active = b.active; finished = b.finished; freezes = b.freezes; clock = b.clock; mark = u; given = b.given }

abbrev pub with_given : ℕ → Board → Board
with_given n b = record { waiting = b.waiting; active = b.active; finished = b.finished; freezes = b.freezes; clock = b.clock; mark = b.mark; given = n }
