-- `desk::rotate` meets its contract. The whole search equals the rest of it. Assumes nothing.
use Rattle.std.proofs.Common.{◌≡◌, ◌-◌, ◌≤◌}
use Rattle.board.specs.Board.{the_unit}
use Rattle.board.specs.Sending.{rotation}
use Rattle.desk.specs.Words.{can_send}
use Rattle.desk.proofs.rotate.Given as goal

abbrev pub invariant-loop-n : goal.invariant-loop-n
invariant-loop-n l = (1 ≤ l.n) × (l.n ≤ 65) × (rotation (can_send l.mem) (the_unit l.from) 64 1 ≡ rotation (can_send l.mem) (the_unit l.from) (65 - l.n) l.n)

abbrev pub decreases-loop-n : goal.decreases-loop-n
decreases-loop-n l = 65 - l.n
