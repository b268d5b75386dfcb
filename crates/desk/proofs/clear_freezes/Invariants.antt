-- `desk::clear_freezes` meets its contract. After each turn the freezes of the units so far are cleared. Assumes nothing.
use Rattle.std.proofs.Common.{◌≡◌}
use Rattle.desk.specs.Begins.{cleared}
use Rattle.desk.proofs.clear_freezes.Given as goal

abbrev pub invariant-loop-unit : goal.invariant-loop-unit
invariant-loop-unit l = l.mem ≡ cleared l.unit l.initial.mem
