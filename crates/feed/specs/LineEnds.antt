-- Where a line ends, and what the functions below `feed` promise. Assumes nothing.
use Rattle.std.specs.Prelude.{ℕ, ◌+◌, ◌≤◌, ◌<◌, ◌≡◌, List, [], ◌++◌, length, get_or, drop}
use Rattle.replay_log.specs.Replay.{answer}
use Rattle.replay_log.specs.Memory.{Memory, shown, Holds}
use Rattle.feed.specs.Feeding.{after, fed}

-- no line feed from index a up to, not including, index e
pub record Clear (s : List ℕ) (a e : ℕ) : Type 0 where
  pub clear : (k : ℕ) → a ≤ k → k < e → get_or s k 0 ≡ 10 → ⊥

-- one line was answered behind what was written
pub record Appends (m m' : Memory) (line out out' : List ℕ) : Type 0 where
  pub holds : Holds m → Holds m'
  pub state : Holds m → shown m' ≡ (answer (shown m) line).state
  pub says : Holds m → out' ≡ out ++ (answer (shown m) line).text
  pub within : length out' ≤ length out + 64

-- the lines before index `at` were answered, in `text`: all of s comes to these answers and then the rest of it
pub record SoFar (m m' : Memory) (s : List ℕ) (at : ℕ) (text : List ℕ) : Type 0 where
  pub holds : Holds m → Holds m'
  pub whole : Holds m → fed (shown m) [] s ≡ after text (fed (shown m') [] (drop at s))
