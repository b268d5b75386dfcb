-- After any lines H is never refused for its block (105): its copy is there, whole, and has its address. Assumes nothing.
use Rattle.std.specs.Prelude.{◌≢◌, List, [], ◌∷◌, ℕ}
use Rattle.board.specs.Answers.{refused}
use Rattle.board.specs.Calls.{hand_back, step}
use Rattle.replay_log.specs.Replay.{State, fresh_state, copy_of_first, answer}

-- the state after lines
unfoldable pub state_after : State → List (List ℕ) → State
state_after s [] = s
state_after s (l ∷ more) = state_after (answer s l).state more

pub record OwnCopies : Type 0 where
  pub never_105 : (ls : List (List ℕ)) → let s = state_after fresh_state ls in (step s.board (hand_back (copy_of_first s.copies s.board.finished))).answer ≢ refused 105
