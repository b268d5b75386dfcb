-- `block::request_of` meets its contract: each part of the request is read where its field stands. Assumes nothing.
use mathlib.Core.Path.{refl}
use Rattle.board.specs.Block.{fields, request}
use Rattle.block.proofs.Numbers.{flag_is}
use Rattle.block.proofs.request_of.Goals as goal

pub returns : goal.returns
unfolding request fields
returns c = cc (flag_is _ 8 (3, refl), flag_is _ 32 (5, refl))
