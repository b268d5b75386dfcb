-- `lines::decode` meets its contract. Assumes nothing.
use lib.ListN.{drop}
use Prim.Native.Nat.{◌*◌}
use Rattle.lines.specs.Text.{bytes}
use lib.Seq.{sets}
use mathlib.Core.Path.{◌≡◌}
use Rattle.lines.proofs.decode.Given as goal

abbrev pub invariant-loop-i : goal.invariant-loop-i
invariant-loop-i l = sets l.initial.block 0 (bytes l.s) ≡ sets l.block l.i (bytes (drop (2 * l.i) l.s))
