-- `lines::all_hex` meets its contract. Assumes nothing.
use mathlib.Core.Path.{◌≡◌}
use mathlib.Core.Bool.{◌&&◌}
use lib.ListN.{drop}
use Rattle.lines.specs.Text.{all_hex}
use Rattle.lines.proofs.all_hex.Given as goal

abbrev pub invariant-loop-c : goal.invariant-loop-c
invariant-loop-c l = all_hex l.s ≡ (l.ok && all_hex (drop l.c-index l.s))
