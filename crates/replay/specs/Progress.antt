-- How far a log has come: the memory and what stands over are what a fresh memory becomes through pieces of input. Assumes nothing.
use Rattle.std.specs.Prelude.{ℕ, List, []}
use Rattle.replay_log.specs.Memory.{Memory}
use Rattle.replay_log.specs.Promise.{Begins}
use Rattle.feed.specs.Feeding.{Through}

pub record Progress (m : Memory) (left : List ℕ) : Type 0 where
  pub first : Memory
  pub begins : Begins first
  pub pieces : List (List ℕ)
  pub texts : List (List ℕ)
  pub through : Through m left first [] pieces texts
