-- A block that passes checks 1 to 3 comes to check 4. Assumes nothing.
use mathlib.Core.Path.{◌≡◌, refl}
use mathlib.Core.Bool.{false, not, ◌||◌}
use mathlib.Core.List.{List}
use Prim.Native.Nat.{ℕ}
use lib.ListN.{length}
use Rattle.board.specs.Plain.{◌=?◌, ◌<?◌, first_that_applies}
use Rattle.board.specs.Block.{byte, two, whole_block, fields}
use Rattle.board.specs.TakingIn.{accept, checks_of_block}
use Rattle.block.specs.Checked.{checks_from_4}

pub reaches_4 : (s : List ℕ) → (length s <? 8) ≡ false → not (byte 6 s =? 1) ≡ false → (two 4 s <? whole_block || length s <? two 4 s) ≡ false
    → first_that_applies (checks_of_block (length s) (fields s)) accept ≡ first_that_applies (checks_from_4 s) accept
unfolding first_that_applies checks_from_4 checks_of_block fields
reaches_4 s a b d = rw (a, b, d) refl
