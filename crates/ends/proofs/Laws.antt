-- What the crates above need of the definitions here: a data length of at most FFFFFFh is left as it is, and a unit is
-- frozen after an end exactly if it was before or the end is bad. Assumes nothing.
use Rattle.std.specs.Prelude.{if◌then◌else◌}
use Rattle.std.proofs.Common.{◌≡◌, ℕ, ◌%◌, ◌≤◌, Bool, true, false, not, ◌||◌, sym, ◌∙◌, arith}
use mathlib.Core.Bool.{or-true, or-false}
use Rattle.board.specs.Plain.{◌=?◌}
use Rattle.board.specs.Board.{data_length, Freeze, is_frozen, one_freeze}
use Rattle.board.specs.Ending.{freeze_after}
use Rattle.board.proofs.Freezes.{one_freeze_frozen}
use Rattle.ends.specs.Types.{Request, Active}
use Rattle.ends.specs.Closing.{capped_request, capped, bad}

pub capped_request_same : (q : Request) → data_length q ≤ 0xFFFFFF → capped_request q ≡ q
unfolding capped_request
capped_request_same q h = let e : q.length % 0x1000000 ≡ q.length = omega arith in rw e

pub capped_same : (a : Active) → data_length a.request ≤ 0xFFFFFF → capped a ≡ a
unfolding capped
capped_same a h = rw (capped_request_same a.request h)

-- one freeze more where a test fails, and the unit frozen by it
freeze_unless : (good : Bool) (x : Freeze) → is_frozen (if good then x else one_freeze x) ≡ (is_frozen x || not good)
freeze_unless true x = sym (or-false (is_frozen x))
freeze_unless false x = one_freeze_frozen x ∙ sym (or-true (is_frozen x))

pub frozen_after : (n : ℕ) (x : Freeze) → is_frozen (freeze_after n x) ≡ (is_frozen x || bad n)
unfolding freeze_after
frozen_after n x = freeze_unless (n =? 0x01) x
