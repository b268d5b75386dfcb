-- What taking a request in looks for and stores: no meaning. Assumes nothing.
use Rattle.std.specs.Prelude.{ℕ, zero, suc, ◌+◌, Bool, false, not, ◌&&◌, ◌||◌, List, Result, Ok, Err, ◌==◌, if◌then◌else◌}
use Rattle.board.specs.declared.Ticket.{Ticket}
use Rattle.board.specs.declared.Request.{Request}
use Rattle.board.specs.declared.Refusal.{Refusal}
use Rattle.board.specs.Answers.{number}
use Rattle.rows.specs.Words.{owner, popped, put_first, put_last}
use Rattle.desk.specs.Words.{address_at, written}

-- one of the first n places has this address and isn't free
unfoldable pub held_to : (n : ℕ) → List ℕ → (address : ℕ) → Bool
held_to zero m a = false
held_to (suc n) m a = held_to n m a || (address_at m n == a && not (owner m n == 0))

-- the first free place, p, is taken; the request is written there, and joins its unit's waiting order, at the front or at the end
unfoldable pub entered : List ℕ → (place : ℕ) → Request → (front : Bool) → List ℕ
entered m p q front =
    let filled = written (popped m 0 p) p q in
    if front then put_first filled (3 + q.unit.0) p else put_last filled (3 + q.unit.0) p

-- what byte 7 tells: 00h, or the refusal's number
abbrev pub status_said : Result Ticket Refusal → ℕ
status_said (Ok t) = 0x00
status_said (Err why) = number why
