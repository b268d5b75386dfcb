-- `desk::report_at` meets its contract. Assumes nothing.
use Rattle.std.proofs.Common.{sym, ◌∙◌, subst, Ok}
use Rattle.desk.specs.Events.{closing_of, Reported, ended_event}
use Rattle.desk.proofs.Reports.{told_implausible}
use Rattle.desk.proofs.report_at.Goals as goal

pub returns-in_err-told : goal.returns-in_err-told
unfolding closing_of
returns-in_err-told c = let x = rw (c.active_at-a.ensures, c.unit.view_is, c.unit_at-unit.ensures) at c.close.ensures in
    let s = c.args.spot in
    subst (λ z. Reported c.args.mem.now c.args.mem.now s.before s.place z c.from_residual.result) (sym c.in_err-told.was ∙ x)
    (told_implausible _ _ _ _ _ c.from_residual.ensures.1)

pub returns : goal.returns
unfolding closing_of
returns c = let x = rw (c.active_at-a.ensures, c.unit.view_is, c.unit_at-unit.ensures) at c.close.ensures in
    let s = c.args.spot in
    subst (λ z. Reported c.args.mem.now c.freeze_if.new.mem s.before s.place z (Ok tt)) (sym c.in_ok-told.was ∙ x)
    (ended_event c.in_ok-told.field-0.told c.in_ok-told.field-0.bad (rw (c.freeze_if.ensures, c.finish.ensures.0, c.unit_at-unit.ensures)) c.finish.ensures.1)
