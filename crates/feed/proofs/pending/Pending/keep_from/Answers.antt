-- `feed::pending::Pending::keep_from` meets its contract. Assumes nothing.
use Rattle.std.proofs.Common.{rules}
use Rattle.feed.proofs.Lining.{kept_over}
use Rattle.feed.proofs.pending.Pending.keep_from.Goals as goal

pub returns-clause-kept : goal.returns-clause-kept
returns-clause-kept c = rw c.copy_within.ensures.after (kept_over _ _ _ _ _ c.self.view_is c.requires (search rules) (search rules))
