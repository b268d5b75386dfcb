-- `Replay::new` meets its contract. Assumes nothing.
use Rattle.std.proofs.Common.{rules}
use Rattle.replay_log.proofs.Replying.{begins_at}
use Rattle.replay_log.proofs.Replay.new.Goals as goal

pub returns : goal.returns
returns c = begins_at _ c.fresh.ensures c.new.ensures.0 c.new.ensures.1 (search rules)
