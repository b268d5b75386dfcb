-- What a hand-back does to the lent block. Assumes nothing.
use Rattle.std.specs.Prelude.{◌≡◌, Bool, not, List, ℕ, if◌then◌else◌}
use Rattle.board.specs.declared.Finished.{Finished}
use Rattle.board.specs.Block.{with_told}
use Rattle.board.specs.Calls.{not_its_block}

-- the answer and the bytes afterwards, for these bytes lent and this finished request
pub record HandedOver (its : Bool) (after s : List ℕ) (x : Finished) : Type 0 where
  -- it is the request's block
  pub says : its ≡ not (not_its_block s x)
  -- told what is to be told if it is, else left as it was
  pub bytes : after ≡ (if not_its_block s x then s else with_told x.told s)
