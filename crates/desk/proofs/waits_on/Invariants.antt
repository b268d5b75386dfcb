-- `desk::waits_on` meets its contract. Assumes nothing.
use Rattle.desk.specs.Aborts.{NoneBelow}
use Rattle.desk.proofs.waits_on.Given as goal

abbrev pub invariant-loop-u : goal.invariant-loop-u
invariant-loop-u l = NoneBelow l.mem l.ticket.0 l.u
