-- `desk::tick` meets its contract. Assumes nothing.
use Rattle.std.proofs.Common.{refl, add-one}
use Rattle.desk.specs.View.{the_rest}
use Rattle.desk.proofs.Ticks.{tick_does}
use Rattle.desk.proofs.tick.Goals as goal

pub returns : goal.returns
returns c = let a = c.args in
    rw (c.mark_late.ensures, add-one a.clock) (record {
      does = λ mark given. tick_does a.mem.now (the_rest a.clock mark given) _ refl;
      second = refl;
    })
