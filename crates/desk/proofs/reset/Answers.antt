-- `desk::reset` meets its contract. After i steps i requests have ended, and a bus reset of what is left makes the same board. Assumes
-- nothing.
use Rattle.std.proofs.Common.{sym, ◌∙◌}
use Rattle.desk.proofs.ResetsAll.{none_reset, one_reset, reset_none}
use Rattle.desk.proofs.reset.Goals as goal

pub loop-init : goal.loop-init
loop-init c = none_reset c.args.mem.now

pub returns-in_default : goal.returns-in_default
returns-in_default c = reset_none c.args.mem.now c.loop.mem c.loop.counter c.loop.invariant (sym c.smallest_spot.ensures ∙ c.in_default.is)

pub loop-preserved : goal.loop-preserved
loop-preserved c = λ rest v.
    rw c.end_by_reset.ensures.0
    (one_reset c.args.mem.now c.loop.mem rest c.loop.counter c.in-Some.spot (sym c.smallest_spot.ensures ∙ c.in-Some.is) c.end_by_reset.ensures.1 (c.loop.invariant rest v))
