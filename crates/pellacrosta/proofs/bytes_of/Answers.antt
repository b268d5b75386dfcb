-- `pellacrosta::bytes_of` meets its contract. Assumes nothing.
use Rattle.board.specs.Block.{bytes4, cdb_bytes}
use borrow.Author.Rules.{rules}
use Rattle.pellacrosta.proofs.bytes_of.Goals as goal

pub returns : goal.returns
unfolding bytes4 cdb_bytes
returns c = search rules
