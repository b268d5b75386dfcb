-- `block::tell` meets its contract: seven bytes are written, each within the block. Assumes nothing.
use Rattle.std.proofs.Common.{arith, rules, ◌∙◌, refl}
use lib.ListN.{set, length-set}
use mir.Syntax.{w32}
use mir.ValLaws.{to_z-of_z}
use Rattle.board.specs.Block.{bytes4, with_told}
use Rattle.block.proofs.Numbers.{word_is, part_written}
use Rattle.block.proofs.tell.Goals as goal

pub returns : goal.returns
unfolding with_told bytes4
returns c =
    part_written (set (set (set c.args.block.now 7 c.args.told.status) 52 c.args.told.scsi) 53 c.args.told.unsensed) c.copy_from_slice.new.self 56 (search rules) (simp length-set (omega arith))
    ∙ rw (c.copy_from_slice.ensures.after, c.to_le_bytes.ensures, to_z-of_z w32 c.args.told.residual (record { sfits = search rules }), word_is) refl
