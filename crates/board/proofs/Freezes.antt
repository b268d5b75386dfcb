-- The laws of a unit's freeze: all that the other proofs know of it. Assumes nothing.
use mathlib.Core.Path.{◌≡◌, refl}
use mathlib.Core.Bool.{true, false}
use Rattle.board.specs.Board.{Freeze, no_freeze, is_frozen, one_freeze}

-- a freeze freezes
pub one_freeze_frozen : (x : Freeze) → is_frozen (one_freeze x) ≡ true
unfolding is_frozen one_freeze
one_freeze_frozen x = refl

-- at first a unit isn't frozen
pub no_freeze_unfrozen : is_frozen no_freeze ≡ false
unfolding is_frozen no_freeze
no_freeze_unfrozen = refl
