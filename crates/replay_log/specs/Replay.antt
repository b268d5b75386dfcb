-- What the replay program answers: one line in, one line out, and a whole log. Document 01, "The replay program". Assumes nothing.
use Rattle.std.specs.Prelude.{ℕ, List, [], ◌∷◌, ◌++◌, if◌then◌else◌}
use Rattle.board.specs.declared.Ticket.{Ticket}
use Rattle.board.specs.declared.Finished.{Finished}
use Rattle.board.specs.Plain.{◌=?◌, any}
use Rattle.board.specs.Board.{the_unit, same_ticket, Board, fresh}
use Rattle.board.specs.Answers.{Answer}
use Rattle.board.specs.Demand3.{given_by, handed_by}
use Rattle.board.specs.Calls.{Call, step}
use Rattle.board.specs.Calls as call
use Rattle.lines.specs.Text.{onto}
use Rattle.lines.specs.Record.{Record, parse}
use Rattle.lines.specs.Record as line
use Rattle.answers.specs.Letters.{S, N, E, A, F, R, T, B, H}
use Rattle.answers.specs.Answer.{print, unclear, head}

-- ---- the state between two lines

-- the board, and the program's own copy of each live request's block ([] where there is none)
pub record State : Type 0 where
  pub board : Board
  pub copies : Ticket → List ℕ

unfoldable pub fresh_state : State
fresh_state = record { board = fresh; copies = λ t. [] }

-- After a call: a block that was accepted is copied as it stands then, and one that was handed back is dropped.
unfoldable pub copies_after : Answer → (lent : List ℕ) → (Ticket → List ℕ) → Ticket → List ℕ
copies_after a lent copies t =
    if any (λ s. same_ticket s t) (given_by a) then lent
    else if any (λ s. same_ticket s t) (handed_by a) then []
    else copies t

-- the copy of the first finished request's block
abbrev pub copy_of_first : (Ticket → List ℕ) → List Finished → List ℕ
copy_of_first copies [] = []
copy_of_first copies (x ∷ more) = copies x.request.ticket

-- ---- one line

-- what a line leaves: the state, and the line that answers it
pub record Answered : Type 0 where
  pub state : State
  pub text : List ℕ

-- a record that makes a call, by its letter
unfoldable pub answered : State → (letter : ℕ) → Call → Answered
answered s letter c =
    let p = step s.board c in
    record { state = record { board = p.board; copies = copies_after p.answer p.lent s.copies }; text = print letter p.answer }

-- H uses the program's own copy of the block. A line not of the form answers `?` and changes nothing.
unfoldable pub respond : State → Record → Answered
respond s (line.submit block) = answered s S (call.take_in block)
respond s line.send = answered s N call.send
respond s (line.event t e moved) = answered s E (call.event t e moved)
respond s (line.abort t) = answered s A (call.abort t)
respond s (line.freeze n) = answered s F (call.freeze (the_unit n))
respond s (line.release n) = answered s R (call.release (the_unit n))
respond s line.tick = answered s T call.tick
respond s line.reset = answered s B call.reset
respond s line.hand_back = answered s H (call.hand_back (copy_of_first s.copies s.board.finished))
respond s line.malformed = record { state = s; text = unclear }

-- a line, without its line feed
abbrev pub answer : State → List ℕ → Answered
answer s l = respond s (parse l)

-- ---- a whole log

-- A line is what stands between line feeds; the last may lack it, and a last line feed begins no further line.
unfoldable pub lines : List ℕ → List (List ℕ)
lines [] = []
lines (c ∷ cs) = if c =? 10 then [] ∷ lines cs else onto c (lines cs)

-- the answers to lines, one after the other
unfoldable pub answers : State → List (List ℕ) → List ℕ
answers s [] = []
answers s (l ∷ more) = (answer s l).text ++ answers (answer s l).state more

-- standard input to standard output
unfoldable pub replay : List ℕ → List ℕ
replay input = head ++ answers fresh_state (lines input)
