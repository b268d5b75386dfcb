-- `feed::whole_lines` meets its contract. After each turn the whole is the answers so far and then the rest. Assumes nothing.
use Prim.Native.Nat.{◌*◌, ◌-◌, ◌≤◌}
use lib.ListN.{length}
use Rattle.feed.specs.LineEnds.{SoFar}
use Rattle.feed.proofs.whole_lines.Given as goal

abbrev pub invariant-loop-n : goal.invariant-loop-n
invariant-loop-n l = record {
  in_range : l.at ≤ length l.s;
  written : length l.out ≤ 64 * l.at;
  so_far : SoFar l.initial.replay l.replay l.s l.at l.out;
}

abbrev pub decreases-loop-n : goal.decreases-loop-n
decreases-loop-n l = length l.s - l.at
