-- What a send does: the rotation finds the first eligible unit, and its count is the distance from the mark. Assumes nothing.
use Rattle.std.specs.Prelude.{Option, Some, None}
use mathlib.Core.Path.{◌≡◌, refl, sym, ◌∙◌, ap}
use mathlib.Core.Logic.{◌≢◌}
use mathlib.Core.Bool.{Bool, true, false, not, ◌&&◌}
use mathlib.Core.List.{List, [], ◌∷◌}
use Prim.Native.Nat.{ℕ, zero, suc, ◌+◌, ◌≤◌, ◌<◌}
use native.Mathlib.Omega.{arith}
use lib.ListN.{length}
use Rattle.board.specs.Types.{Unit, Request, Found}
use Rattle.board.specs.Plain.{◌=?◌, ◌≤?◌}
use Rattle.board.specs.Board.{units, most_active, Board, frozen}
use Rattle.board.specs.Answers.{nothing, says}
use Rattle.board.specs.Sending.{waits, busy, eligible, after, found, rotation, sent_first, sent_by, sending}
use Rattle.board.specs.Calls.{step}
use Rattle.board.specs.Sends.{Sends, full, nobody, first_eligible, EverySend}
use Rattle.board.proofs.Choose.{if_ind, true≢false, by_cases, both, same, differ, at_most, not_at_most}

-- ---- the rotation, from the n-th unit on

-- none of the units from the n-th up to the k-th passes the test
abbrev NoneFrom : (Unit → Bool) → (mark : Unit) → (n k : ℕ) → Type 0
NoneFrom able mark n k = (j : ℕ) → n ≤ j → j < k → able (after mark j) ≡ false

-- what the rotation says of `left` units
pub data Says (able : Unit → Bool) (mark : Unit) (left n : ℕ) : Option Found → Type 0 where
  finds : (k : ℕ) → n ≤ k → k < n + left → able (after mark k) ≡ true → NoneFrom able mark n k → Says able mark left n (Some (found (after mark k) k))
  finds_nobody : NoneFrom able mark n (n + left) → Says able mark left n None

-- one more unit, looked at before the others
none_more : (able : Unit → Bool) (mark : Unit) (n k : ℕ) → able (after mark n) ≡ false → NoneFrom able mark (suc n) k → NoneFrom able mark n k
none_more able mark n k e f j h l =
    by_cases (n =? j)
    (λ s. ap (λ i. able (after mark i)) (sym (same s)) ∙ e)
    (λ s. let d : n ≢ j = differ s in f j (omega arith) l)

says_more : (able : Unit → Bool) (mark : Unit) (left n : ℕ) (r : Option Found) → able (after mark n) ≡ false → Says able mark left (suc n) r → Says able mark (suc left) n r
says_more able mark left n r e (finds k h l t f) = finds k (omega arith) (omega arith) t (none_more able mark n k e f)
says_more able mark left n r e (finds_nobody f) = finds_nobody (none_more able mark n (n + suc left) e (λ j h l. f j h (omega arith)))

pub rotation_says : (able : Unit → Bool) (mark : Unit) (left n : ℕ) → Says able mark left n (rotation able mark left n)
unfolding rotation
rotation_says able mark zero n = finds_nobody (λ j h l. absurd (omega arith))
rotation_says able mark (suc left) n =
    if_ind (Says able mark (suc left) n) (able (after mark n)) (Some (found (after mark n) n)) (rotation able mark left (suc n))
    (λ e. finds n (omega arith) (omega arith) e (λ j h l. absurd (omega arith)))
    (λ e. says_more able mark left n _ e (rotation_says able mark left (suc n)))

-- ---- a send

-- where a unit is eligible, something waits on it
something_waits : (b : Board) (u : Unit) → eligible b u ≡ true → waits (b.waiting u) ≡ true
unfolding eligible
something_waits b u e = (both (waits (b.waiting u)) (not (frozen b u)) (both (waits (b.waiting u) && not (frozen b u)) (not (busy u b.active)) e).0).0

module _ (b : Board) (h : length b.active < most_active) where
  sends_first : (k : ℕ) (l : List Request) → b.waiting (after b.mark k) ≡ l → waits l ≡ true → 1 ≤ k → k ≤ units → NoneFrom (eligible b) b.mark 1 k → eligible b (after b.mark k) ≡ true
      → Sends b (sent_first b (after b.mark k) k l)
  unfolding sent_first
  sends_first k [] e w from to f t = true≢false (sym w)
  sends_first k (q ∷ more) e w from to f t = first_eligible k q more h from to f t e

  sends_by : (r : Option Found) → Says (eligible b) b.mark units 1 r → Sends b (sent_by b r)
  unfolding sent_by
  sends_by r (finds k from to t f) = sends_first k (b.waiting (after b.mark k)) refl (something_waits b (after b.mark k) t) from (omega arith) f t
  sends_by r (finds_nobody f) = nobody h (λ k from to. f k from (omega arith))

pub sends : EverySend
unfolding step sending
sends b =
    if_ind (Sends b) (most_active ≤? length b.active) (says b (nothing 0)) (sent_by b (rotation (eligible b) b.mark units 1))
    (λ e. full (at_most e))
    (λ e. sends_by b (not_at_most e) (rotation (eligible b) b.mark units 1) (rotation_says (eligible b) b.mark units 1))
