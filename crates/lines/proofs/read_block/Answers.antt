-- `lines::read_block` meets its contract. Assumes nothing.
use Rattle.lines.proofs.Records.{block_good, block_record}
use Rattle.lines.proofs.read_block.Goals as goal

pub returns : goal.returns
returns c = block_record _ _ _ c.requires (block_good _ _ c.if-s-ne0.false c.all_hex.ensures c.if-not-all_hex.false) c.decode.ensures
