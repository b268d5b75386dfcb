-- `desk::mark_late` meets its contract. The whole walk marks what the rest of it does. Assumes nothing.
use Rattle.std.proofs.Common.{◌≡◌, ◌-◌}
use Rattle.rows.specs.Rows.{row_of}
use Rattle.desk.specs.Ticking.{all_marked}
use Rattle.desk.proofs.Ticks.{places_from}
use Rattle.desk.proofs.mark_late.Given as goal

abbrev pub invariant-loop : goal.invariant-loop
invariant-loop l = all_marked l.initial.mem l.clock (row_of l.initial.mem 2) ≡ all_marked l.mem l.clock (places_from (32 - l.counter) l.mem l.at)
