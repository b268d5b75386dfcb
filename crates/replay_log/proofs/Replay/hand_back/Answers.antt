-- `Replay::hand_back` meets its contract. Assumes nothing.
use mathlib.Core.Path.{◌≡◌, ap, ◌∙◌}
use Rattle.std.specs.Option.{unwrap_or}
use Rattle.copies.proofs.Copied.{nowhere}
use Rattle.replay_log.specs.Parts.{lies_for}
use lib.ListN.{length}
use Rattle.std.proofs.Common.{rules}
use Rattle.replay_log.proofs.Lending.{part_within, lends}
use Rattle.replay_log.proofs.Blocks.{gave}
use Rattle.replay_log.proofs.Replay.hand_back.Goals as goal

pub returns : goal.returns
returns c = let o = c.self.inside in
    let size : length o.copies.store ≡ 6400 = search rules in
    let within = part_within _ c.find.ensures.bounds in
    let there : c.unwrap_or-part.result ≡ unwrap_or (lies_for c.look-seen.result o.copies.book) nowhere = c.unwrap_or-part.ensures ∙ ap (λ r. unwrap_or r nowhere) c.find.ensures.value in
    rw (← c.self.view_is, c.forget.ensures.0, c.forget.ensures.1)
    (gave _ _ _ _ _ _ c.look-seen.result _ _ c.hand_back-answer.result _ (c.look-seen.ensures _) (ap (λ r. r.start) there) (ap (λ r. r.end) there) (lends _ _ _ _ _ _ _ (rw c.unwrap_or-part.ensures within.0) (rw (c.unwrap_or-part.ensures, size) within.1) c.hand_back-answer.auto.block c.hand_back-answer.ensures) c.handing_back.ensures)
