-- `desk::address_held` meets its contract: after i places, what they hold. Assumes nothing.
use Rattle.std.proofs.Common.{◌≡◌}
use Rattle.desk.specs.TakingIn.{held_to}
use Rattle.desk.proofs.address_held.Given as goal

abbrev pub invariant-loop-i : goal.invariant-loop-i
invariant-loop-i l = l.held ≡ held_to l.i l.mem l.address
