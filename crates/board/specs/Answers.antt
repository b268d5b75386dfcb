-- The answers, in document 01's numbers and values, and what each answer of the code says in them. Assumes nothing.
use Rattle.std.specs.Prelude.{Bool, List, [], ℕ, Option, Some, None, Result, Ok, Err, if◌then◌else◌}
use Rattle.board.specs.Types.{Ticket, Unit, Cdb, Told, Refusal, CamBusy, InvalidRequest, InvalidPath, LengthInadequate, CannotProvide, Sending, Unreported, UnableToAbort, NoSuchUnit, First, Handed, NotHanded}
use Rattle.board.specs.declared.Unreported.TheVariants as unreported
use Rattle.board.specs.declared.NotHanded.TheVariants as not_handed
use Rattle.board.specs.Board.{Board}

pub data Answer : Type 0 where
  -- any call: no, by its number
  refused : (number : ℕ) → Answer
  -- taking in
  taken : Ticket → Answer
  -- send; the 12 CDB bytes are three words
  sent : Ticket → Unit → Cdb → (looked : ℕ) → Answer
  nothing : (looked : ℕ) → Answer
  -- event, abort, bus reset
  done : Answer
  -- freeze, release: 1 if it was frozen before, else 0
  before : (number : ℕ) → Answer
  -- tick
  time : (clock : ℕ) → Answer
  -- look at the finished line
  first : Ticket → (address callback : ℕ) → (wanted : Bool) → Answer
  empty : Answer
  -- hand back
  handed : Ticket → Told → Answer

-- what a call leaves: the board, the answer, and the lent block's bytes ([] where none is lent)
pub record Stepped : Type 0 where
  pub board : Board
  pub answer : Answer
  pub lent : List ℕ

-- a call that lends no block
abbrev pub says : Board → Answer → Stepped
says b a = record { board = b; answer = a; lent = [] }

-- ---- the refusals' numbers

abbrev pub number : Refusal → ℕ
number CamBusy = 0x05
number InvalidRequest = 0x06
number InvalidPath = 0x07
number LengthInadequate = 0x15
number CannotProvide = 0x16

abbrev pub event_number : Unreported → ℕ
event_number unreported.NotActive = 101
event_number unreported.Implausible = 102

abbrev pub abort_number : UnableToAbort → ℕ
abort_number why = 0x03

abbrev pub unit_number : NoSuchUnit → ℕ
unit_number why = 103

abbrev pub hand_back_number : NotHanded → ℕ
hand_back_number not_handed.LineEmpty = 104
hand_back_number not_handed.NotItsBlock = 105

-- true is 1
abbrev pub bit : Bool → ℕ
bit x = if x then 1 else 0

-- ---- what the code's answers say. (A tick answers the clock, a bus reset nothing: `time` and `done` say it.)

abbrev pub taking_in_says : Result Ticket Refusal → Answer
taking_in_says (Ok t) = taken t
taking_in_says (Err why) = refused (number why)

abbrev pub sending_says : Sending → Answer
sending_says x = elim x.sent [ Some s ↦ sent s.ticket s.unit s.cdb x.looked | None ↦ nothing x.looked ]

abbrev pub reporting_says : Result (Prim.Unit {0}) Unreported → Answer
reporting_says (Ok ended) = done
reporting_says (Err why) = refused (event_number why)

abbrev pub aborting_says : Result (Prim.Unit {0}) UnableToAbort → Answer
aborting_says (Ok aborted) = done
aborting_says (Err why) = refused (abort_number why)

abbrev pub freezing_says : Result Bool NoSuchUnit → Answer
freezing_says (Ok was_frozen) = before (bit was_frozen)
freezing_says (Err why) = refused (unit_number why)

abbrev pub looking_says : Option First → Answer
looking_says (Some x) = first x.ticket x.address x.callback x.wanted
looking_says None = empty

abbrev pub handing_back_says : Result Handed NotHanded → Answer
handing_back_says (Ok x) = handed x.ticket x.told
handing_back_says (Err why) = refused (hand_back_number why)
