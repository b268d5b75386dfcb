-- `replay::run` meets its contract. After each turn the log has come one piece further. Assumes nothing.
use Rattle.replay.specs.Progress.{Progress}
use Rattle.replay.proofs.run.Given as goal

abbrev pub invariant-loop : goal.invariant-loop
invariant-loop g l = Progress l.replay l.pending
