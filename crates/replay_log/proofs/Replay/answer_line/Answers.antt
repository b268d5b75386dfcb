-- `Replay::answer_line` meets its contract: in each arm, the record that was read. Assumes nothing.
use mathlib.Core.Path.{refl, ap, ◌∙◌}
use Rattle.std.specs.Prelude.{Some}
use Rattle.std.specs.Result.{result_ok}
use Rattle.board.specs.Board.{the_unit}
use Rattle.board.specs.Calls as call
use Rattle.board.proofs.Numbers.{freeze_numbered, release_numbered}
use Rattle.desk.proofs.Views.{does_as}
use Rattle.lines.specs.Record as record_of
use Rattle.answers.specs.Letters.{N, E, A, F, R, T, B}
use Rattle.answers.proofs.Before.{prints_bool}
use Rattle.replay_log.specs.Replay.{respond}
use Rattle.replay_log.proofs.Replying.{plainly, stays, as_read, neither_sending, neither_reporting, neither_aborting, neither_freezing, neither_time, neither_done}
use Rattle.replay_log.proofs.Replay.answer_line.Goals as goal

pub returns-in-Submit : goal.returns-in-Submit
returns-in-Submit c = as_read c.parse_line.ensures refl (ap result_ok c.in-Ok.is ∙ ap Some c.in-Submit.is) c.take_in.ensures

pub returns-in-Send : goal.returns-in-Send
unfolding respond
returns-in-Send c = rw (← c.self.view_is)
    (as_read c.parse_line.ensures refl (ap result_ok c.in-Ok.is ∙ ap Some c.in-Send.is)
    (plainly _ _ _ _ _ _ record_of.send N call.send _ _ (c.send-went.ensures.does _) (λ st. refl) (neither_sending c.send-went.result.answer) c.sending.ensures))

pub returns-in-Event : goal.returns-in-Event
unfolding respond
returns-in-Event c = rw (← c.self-in-Event.view_is)
    (as_read c.parse_line.ensures refl (ap result_ok c.in-Ok.is ∙ ap Some c.in-Event.is)
    (plainly _ _ _ _ _ _ (record_of.event _ _ _) E (call.event _ _ _) _ _ (c.report.ensures _) (λ st. refl) (neither_reporting c.report.result) c.reporting.ensures))

pub returns-in-Abort : goal.returns-in-Abort
unfolding respond
returns-in-Abort c = rw (← c.self-in-Abort.view_is)
    (as_read c.parse_line.ensures refl (ap result_ok c.in-Ok.is ∙ ap Some c.in-Abort.is)
    (plainly _ _ _ _ _ _ (record_of.abort _) A (call.abort _) _ _ (c.abort.ensures _) (λ st. refl) (neither_aborting c.abort.result) c.aborting.ensures))

pub returns-in-Freeze : goal.returns-in-Freeze
unfolding respond
returns-in-Freeze c = rw (← c.self-in-Freeze.view_is)
    (as_read c.parse_line.ensures refl (ap result_ok c.in-Ok.is ∙ ap Some c.in-Freeze.is)
    (plainly _ _ _ _ _ _ (record_of.freeze _) F (call.freeze (the_unit _)) _ _ (does_as (call.freeze c.from.result) (call.freeze (the_unit _)) (freeze_numbered _ _ c.from.ensures) (c.freeze.ensures.does _)) (λ st. refl) (neither_freezing c.freeze.result) (prints_bool F c.freeze.result _ c.freezing.ensures)))

pub returns-in-Release : goal.returns-in-Release
unfolding respond
returns-in-Release c = rw (← c.self-in-Release.view_is)
    (as_read c.parse_line.ensures refl (ap result_ok c.in-Ok.is ∙ ap Some c.in-Release.is)
    (plainly _ _ _ _ _ _ (record_of.release _) R (call.release (the_unit _)) _ _ (does_as (call.release c.from-in-Release.result) (call.release (the_unit _)) (release_numbered _ _ c.from-in-Release.ensures) (c.release.ensures.does _)) (λ st. refl) (neither_freezing c.release.result) (prints_bool R c.release.result _ c.releasing.ensures)))

pub returns-in-Tick : goal.returns-in-Tick
unfolding respond
returns-in-Tick c = rw (← c.self-in-Tick.view_is)
    (as_read c.parse_line.ensures refl (ap result_ok c.in-Ok.is ∙ ap Some c.in-Tick.is)
    (plainly _ _ _ _ _ _ record_of.tick T call.tick _ _ (c.tick-self-inside.ensures.does _ _) (λ st. refl) (neither_time _) c.ticking.ensures))

pub returns-in-Reset : goal.returns-in-Reset
unfolding respond
returns-in-Reset c = rw (← c.self-in-Reset.view_is)
    (as_read c.parse_line.ensures refl (ap result_ok c.in-Ok.is ∙ ap Some c.in-Reset.is)
    (plainly _ _ _ _ _ _ record_of.reset B call.reset _ _ (c.reset.ensures _) (λ st. refl) (neither_done) c.resetting.ensures))

pub returns-in_default : goal.returns-in_default
returns-in_default c = as_read c.parse_line.ensures refl (ap result_ok c.in_default.is) (stays _ _ _ _ _ c.malformed.ensures)
