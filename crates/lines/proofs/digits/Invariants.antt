-- `lines::digits` meets its contract. Assumes nothing.
use mathlib.Core.Path.{◌≡◌}
use lib.ListN.{drop}
use Rattle.lines.specs.Text.{more}
use Rattle.lines.proofs.digits.Given as goal

abbrev pub invariant-loop-c : goal.invariant-loop-c
invariant-loop-c l = more 0 l.s ≡ more l.n (drop l.c-index l.s)
