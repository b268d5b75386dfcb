-- What the functions on one line promise. Assumes nothing.
use Rattle.std.specs.Prelude.{ℕ, ◌≡◌, List}
use Rattle.lines.specs.Record.{Record}
use Rattle.replay_log.specs.Replay.{fresh_state, respond}
use Rattle.replay_log.specs.Memory.{Memory, shown, Holds}

-- From the memory m to m' by this record. A memory that holds a state still holds one, and it is the definition's; the text is the
-- definition's answer then. (Of EVERY memory it is a text of at most 64 bytes, as every `Text` is.)
pub record Replies (m m' : Memory) (r : Record) (text : List ℕ) : Type 0 where
  pub holds : Holds m → Holds m'
  pub state : Holds m → shown m' ≡ (respond (shown m) r).state
  pub says : Holds m → text ≡ (respond (shown m) r).text

-- a fresh state
pub record Begins (m : Memory) : Type 0 where
  pub holds : Holds m
  pub state : shown m ≡ fresh_state
