-- `feed::whole_lines` meets its contract. After each turn the whole is the answers so far and then the rest. Assumes nothing.
use Prim.Native.Nat.{ℕ, ◌+◌}
use native.Mathlib.Omega.{arith}
use mathlib.Core.Path.{◌≡◌, subst}
use Rattle.feed.specs.LineEnds.{SoFar}
use Rattle.feed.proofs.Clears.{line_clear, line_within, line_here, rest_clear}
use Rattle.feed.proofs.Lining.{one_more}
use Rattle.feed.proofs.whole_lines.Goals as goal

pub loop-n-preserved : goal.loop-n-preserved
loop-n-preserved c = let o = c.loop-n in
    let n = c.in-Some.n in
    let s = c.args.s.now in
    let a = c.append.ensures in
    let l = line_within s o.at n c.in-Some.ensures in
    let e : o.at + n + 1 ≡ o.at + (n + 1) = omega arith in
    record {
      in_range = omega arith;
      written = omega (arith, a.within);
      so_far = subst (λ (k : ℕ). SoFar c.args.replay.now c.append.new.replay s k c.append.new.out) e
          (one_more _ _ _ s _ _ o.at (o.at + n) (omega arith) l (line_clear s o.at n c.in-Some.ensures) (line_here s o.at n c.in-Some.ensures) o.invariant.so_far a);
    }

pub returns-clause-at_in_bounds : goal.returns-clause-at_in_bounds
returns-clause-at_in_bounds c = let o = c.loop-n in (o.invariant.in_range, rest_clear _ _ c.in_default.ensures, o.invariant.written)
