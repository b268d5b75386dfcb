-- `block::examine` meets its contract: a block that passes checks 1 to 3 and then 4 to 8 says what it asks for. Assumes nothing.
use mathlib.Core.Path.{refl}
use Rattle.board.specs.Block.{fields}
use Rattle.block.specs.Checked.{outcome_of, examined}
use Rattle.block.proofs.Numbers.{flag_is}
use Rattle.block.proofs.Passing.{reaches_4}
use Rattle.block.proofs.examine.Goals as goal

pub returns : goal.returns
unfolding examined outcome_of fields
returns c =
    rw (reaches_4 c.args.block.now c.in_ok-check.ensures c.in_ok-check-2.ensures (rw (c.from-length.ensures, c.two_bytes.ensures) at c.in_ok-check-3.ensures), ← c.checks_from_4.ensures, c.in_ok-checks_from_4.was, c.request_of-request.ensures, flag_is _ 16 (4, refl)) refl
