-- What an exported call promises: what the desk and the wheel promise, in C's form; and refusal 201, which is the library's own, where
-- fewer words are lent than a desk has. Assumes nothing.
use Rattle.std.specs.Prelude.{ℕ, ◌≤◌, ◌<◌, ◌≡◌, List, [], Result, Ok, Err}
use Rattle.board.specs.declared.Ticket.{Ticket}
use Rattle.board.specs.declared.Event.{Event}
use Rattle.board.specs.Answers.{Answer, reporting_says}
use Rattle.board.specs.Calls.{Call, event}
use Rattle.desk.specs.View.{Rest}
use Rattle.desk.specs.Promise.{Does}
use Rattle.pellacrosta.specs.declared.Unclear.{Unclear}
use Rattle.pellacrosta.specs.Meaning.{unclear_number}
use Rattle.pellacrosta.specs.Forms.{as_reported}

-- how many words a desk has
abbrev pub desk_words : ℕ
desk_words = 838

-- An exported call that is lent so many words: `refused` is what holds with too few of them, `works` otherwise.
pub record Exported (words : ℕ) (refused works : Type 0) : Type 0 where
  pub short : words < desk_words → refused
  pub lent : desk_words ≤ words → works

-- C is given r: the form of an answer of which this is promised
pub record Given {A R : Type 0} (form : A → R) (r : R) (promise : A → Type 0) : Type 0 where
  pub answer : A
  pub formed : r ≡ form answer
  pub keeps : promise answer

-- from the words m to m', a call that leaves clock, mark and last ticket alone and is lent no block
abbrev pub Alone : (m m' : List ℕ) → Call → Answer → Type 0
Alone m m' c a = (rest : Rest) → Does m m' rest rest c a []

-- A report on a ticket: the event's, or, where the numbers mean no event, their refusal, which alters nothing.
abbrev pub Reports : (m m' : List ℕ) → Ticket → Result Event Unclear → (moved r : ℕ) → Type 0
Reports m m' t (Ok e) moved r = Given as_reported r (λ a. Alone m m' (event t e moved) (reporting_says a))
Reports m m' t (Err why) moved r = (r ≡ unclear_number why) × (m' ≡ m)
