-- `rows::begin` meets its contract. After p turns the first p places are in row 0. Assumes nothing.
use Rattle.std.proofs.Common.{◌≡◌, subst, arith}
use Rattle.rows.proofs.Fresh.{BegunTo, begun_all}
use Rattle.rows.proofs.begin.Goals as goal

pub returns : goal.returns
returns c = let h = c.loop-p in
    let e : h.p ≡ 32 = omega arith in
    begun_all h.mem (subst (BegunTo h.mem) e h.invariant)
