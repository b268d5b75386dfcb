-- `wheel::send` meets its contract: what the desk promises, with the mark by what was sent. Assumes nothing.
use Rattle.std.proofs.Common.{subst}
use Rattle.wheel.specs.Turned.{mark_after, Sends}
use Rattle.wheel.proofs.Turns.{with_mark, sends}
use Rattle.wheel.proofs.send.Goals as goal

pub returns-in-Some : goal.returns-in-Some
returns-in-Some c = let w = c.args.wheel.now in
    subst (λ x. Sends c.args.mem.now c.send.new.mem w (with_mark w (mark_after x w.mark)) c.send.result.answer) c.in-Some.is (sends _ _ w _ _ c.send.ensures)

pub returns-in_default : goal.returns-in_default
returns-in_default c = let w = c.args.wheel.now in
    subst (λ x. Sends c.args.mem.now c.send.new.mem w (with_mark w (mark_after x w.mark)) c.send.result.answer) c.in_default.is (sends _ _ w _ _ c.send.ensures)
