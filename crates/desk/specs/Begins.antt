-- What a fresh memory stores: no meaning. Assumes nothing.
use Rattle.std.specs.Prelude.{ℕ, zero, suc, ◌+◌, List, slice_set}

-- the freezes of the first n units are cleared
unfoldable pub cleared : (n : ℕ) → List ℕ → List ℕ
cleared zero m = m
cleared (suc n) m = slice_set (cleared n m) (262 + n) 0
