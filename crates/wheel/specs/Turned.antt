-- What a tick and a send promise of the wheel and of the board. Assumes nothing.
use Rattle.std.specs.Prelude.{ℕ, suc, ◌%◌, ◌^◌, ◌≡◌, List, [], Option, Some, None}
use Rattle.board.specs.declared.Sent.{Sent}
use Rattle.board.specs.declared.Sending.{Sending}
use Rattle.board.specs.Board.{the_unit}
use Rattle.board.specs.Answers.{sending_says, nothing, time}
use Rattle.board.specs.Calls.{send, tick}
use Rattle.desk.specs.View.{Rest, the_rest}
use Rattle.desk.specs.Promise.{Does}
use Rattle.wheel.specs.declared.Wheel.{Wheel}

-- The mark becomes the unit that was sent to; with "nothing" it stays.
abbrev pub mark_after : Option Sent → (mark : ℕ) → ℕ
mark_after (Some s) mark = s.unit.0
mark_after None mark = mark

-- what the board has of the wheel: its clock and its mark, beside the last ticket given
abbrev pub rest_of : Wheel → (given : ℕ) → Rest
rest_of w given = the_rest w.clock (the_unit w.mark) given

-- A tick, from the words m and the wheel w to m' and w', with this answer. Of EVERY memory: the clock is the answer, which is the next
-- second, and the mark is as it was. And what the desk promises of a tick, whatever the last ticket given.
pub record Ticks (m m' : List ℕ) (w w' : Wheel) (r : ℕ) : Type 0 where
  pub clock : w'.clock ≡ r
  pub second : r ≡ suc w.clock % 2 ^ 32
  pub mark : w'.mark ≡ w.mark
  pub does : (given : ℕ) → Does m m' (rest_of w given) (rest_of w' given) tick (time r) []

-- A send. Of EVERY memory: the clock is as it was, and the mark is the unit that was sent to, or with "nothing" as it was, and then every
-- word is as it was. And what the desk promises of a send, whatever the last ticket given.
pub record Sends (m m' : List ℕ) (w w' : Wheel) (a : Sending) : Type 0 where
  pub clock : w'.clock ≡ w.clock
  pub mark : w'.mark ≡ mark_after a.sent w.mark
  pub idle : (n : ℕ) → sending_says a ≡ nothing n → m' ≡ m
  pub does : (given : ℕ) → Does m m' (rest_of w given) (rest_of w' given) send (sending_says a) []
