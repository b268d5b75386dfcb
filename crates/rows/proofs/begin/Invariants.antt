-- `rows::begin` meets its contract. After p turns the first p places are in row 0. Assumes nothing.
use Rattle.rows.proofs.Fresh.{BegunTo}
use Rattle.rows.proofs.begin.Given as goal

abbrev pub invariant-loop-p : goal.invariant-loop-p
invariant-loop-p l = BegunTo l.mem l.p
