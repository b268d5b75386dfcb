-- `desk::release` meets its contract. Assumes nothing.
use Rattle.board.specs.Board.{one_release}
use Rattle.board.specs.Calls.{release}
use Rattle.desk.proofs.Freezes.{release_back, release_is, freezes}
use Rattle.desk.proofs.release.Goals as goal

pub returns : goal.returns
returns c = let a = c.args in freezes one_release 0 release_back a.u (release a.u) (release_is a.u) a.mem.now c.set_freeze.new.mem c.set_freeze.result c.set_freeze.ensures
