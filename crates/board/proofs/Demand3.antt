-- Demand 3, of the definitions. Assumes nothing.
use Rattle.board.specs.Demand3.{Demand3}
use Rattle.board.proofs.Places.{accounted}
use Rattle.board.proofs.Quiet.{quiet}
use Rattle.board.proofs.Records.{freeze_alone, release_alone, event_alone, reset_alone}
use Rattle.board.proofs.Picks.{same_answer, same_pick}

pub demand3 : Demand3
demand3 = record {
  accounted = accounted;
  quiet = quiet;
  freeze_alone = freeze_alone;
  release_alone = release_alone;
  event_alone = event_alone;
  reset_alone = reset_alone;
  same_answer = same_answer;
  same_pick = same_pick;
}
