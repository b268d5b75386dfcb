-- `Replay::take_in` meets its contract. Assumes nothing.
use Rattle.replay_log.proofs.Blocks.{took}
use Rattle.replay_log.proofs.Replay.take_in.Goals as goal

pub returns : goal.returns
returns c = rw (← c.self.view_is, c.keep.ensures.0, c.keep.ensures.1)
    (took _ _ _ _ _ _ _ _ _ _ c.take_in-answer.result _ c.take_in-answer.ensures c.requires c.taking_in.ensures)
