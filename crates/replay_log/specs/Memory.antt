-- The state that the memory holds. Assumes nothing.
use Rattle.std.specs.Prelude.{ℕ, ◌≡◌, Bool, false, List, length}
use Rattle.board.specs.Plain.{count}
use Rattle.board.specs.Board.{live}
use Rattle.copies.specs.Slots.{slots_passing, copy_of}
use Rattle.desk.specs.View.{Rest, view, Valid}
use Rattle.replay_log.specs.Replay.{State}

-- the desk's words, the book and the store of the copies, and what goes in by value
pub record Memory : Type 0 where
  pub words : List ℕ
  pub book : List ℕ
  pub store : List ℕ
  pub rest : Rest

-- the state that it shows
unfoldable pub shown : Memory → State
shown m = record { board = view m.words m.rest; copies = copy_of m.book m.store }

-- The memory holds a state: the desk's words are valid; and there is a slot for each live request and none besides, so that as many
-- slots as live tickets pass any test that a free slot fails.
pub record Holds (m : Memory) : Type 0 where
  pub desk : Valid m.words m.rest
  pub book_size : length m.book ≡ 64
  pub store_size : length m.store ≡ 6400
  pub slots : (test : ℕ → Bool) → test 0 ≡ false → slots_passing 32 test m.book ≡ count (λ q. test q.ticket.0) (live (view m.words m.rest))
