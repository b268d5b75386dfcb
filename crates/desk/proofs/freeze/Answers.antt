-- `desk::freeze` meets its contract. Assumes nothing.
use Rattle.board.specs.Board.{one_freeze}
use Rattle.board.specs.Calls.{freeze}
use Rattle.desk.proofs.Freezes.{freeze_back, freeze_is, freezes}
use Rattle.desk.proofs.freeze.Goals as goal

pub returns : goal.returns
returns c = let a = c.args in freezes one_freeze 1 freeze_back a.u (freeze a.u) (freeze_is a.u) a.mem.now c.set_freeze.new.mem c.set_freeze.result c.set_freeze.ensures
