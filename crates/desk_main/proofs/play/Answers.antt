-- `desk_main::play` meets its contract: the promises of the calls, one after the other. Assumes nothing.
use Rattle.std.specs.Option.{is_some}
use mathlib.Core.Path.{sym, ap}
use Rattle.board.specs.Answers.{sending_says}
use Rattle.board.proofs.Answers.{one_sending}
use Rattle.desk_main.specs.Story.{short_read_seen}
use Rattle.desk_main.proofs.Told.{one_seen, sends_1, told, ticket_in}
use Rattle.desk_main.proofs.play.Goals as goal

pub unwrap-requires : goal.unwrap-requires
unwrap-requires c = let k = one_sending c.send.result.answer short_read_seen.sent (sends_1 c.fresh.ensures c.take_in-taken.ensures c.send.ensures.does c.requires) in ap (λ x. is_some x.sent) k

pub returns : goal.returns
returns c =
    let ticket = sym (ap (λ x. ticket_in (sending_says (record { sent = x; looked = c.send.result.answer.looked }))) c.unwrap.ensures) in
    let t = told c.fresh.ensures c.take_in-taken.ensures c.send.ensures.does c.requires c.report-ended.ensures c.look-first.ensures c.hand_back-handed.ensures ticket in
    (one_seen _ _ t.0, t.1)
