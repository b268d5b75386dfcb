-- What a send does, without the loop: which of three cases it is, and what it leaves then. "Looked at" is the distance from the
-- mark to the first eligible unit. proofs/Sends.antt proves it. Assumes nothing.
use Rattle.std.specs.Prelude.{◌≡◌, true, false, List, ◌∷◌, ℕ, ◌≤◌, ◌<◌, length}
use Rattle.board.specs.Types.{Request}
use Rattle.board.specs.Board.{units, most_active, Board}
use Rattle.board.specs.Answers.{sent, nothing, Stepped, says}
use Rattle.board.specs.Sending.{eligible, after, sent_from}
use Rattle.board.specs.Calls.{send, step}

-- The cases exclude one another, and each names the answer and the board.
pub data Sends (b : Board) : Stepped → Type 0 where
  -- with 8 active
  full : most_active ≤ length b.active → Sends b (says b (nothing 0))
  -- none is eligible
  nobody :
      length b.active < most_active
      → ((k : ℕ) → 1 ≤ k → k ≤ units → eligible b (after b.mark k) ≡ false)
      → Sends b (says b (nothing units))
  -- the k-th unit after the mark is eligible and none before it is; q is its first waiting request
  first_eligible :
      (k : ℕ) (q : Request) (more : List Request)
      → length b.active < most_active
      → 1 ≤ k
      → k ≤ units
      → ((j : ℕ) → 1 ≤ j → j < k → eligible b (after b.mark j) ≡ false)
      → eligible b (after b.mark k) ≡ true
      → b.waiting (after b.mark k) ≡ q ∷ more
      → Sends b (says (sent_from (after b.mark k) q more b) (sent q.ticket (after b.mark k) q.cdb k))

abbrev pub EverySend : Type 0
EverySend = (b : Board) → Sends b (step b send)
