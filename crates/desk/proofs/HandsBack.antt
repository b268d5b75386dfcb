-- Handing back, on the words. Assumes nothing.
use Rattle.std.specs.Prelude.{None, Some, if◌then◌else◌}
use Rattle.std.proofs.Common.{◌≡◌, ℕ, ◌+◌, ◌<◌, Bool, true, false, ◌≢◌, List, map, sym, refl, ap, ◌∙◌, subst, arith}
use Rattle.board.specs.declared.Finished.{Finished}
use Rattle.board.specs.declared.Told.{Told}
use Rattle.board.specs.Board.{with_finished}
use Rattle.board.specs.Answers.{refused, handed, Stepped}
use Rattle.board.specs.Block.{with_told}
use Rattle.board.specs.Calls.{not_its_block, first_to, handing_back, hand_back, step}
use Rattle.rows.specs.Words.{head, as_place, popped, put_last}
use Rattle.rows.proofs.Carry.{same_links, Out, first_out, Carried, carry, read_left, read_same}
use Rattle.desk.specs.View.{request_at, active_at, finished_at, Rest, view, Valid}
use Rattle.desk.specs.Promise.{HandsBack}
use Rattle.desk.proofs.Sought.{row_first}
use Rattle.desk.proofs.Read.{SamePlace, kept_place}
use Rattle.desk.proofs.Views.{board_same, Leaves, leaves, unchanged, same_waiting, same_freezes, request_others, active_others, finished_others}
use Rattle.desk.proofs.Looks.{line_empty, line_first}

-- 104: the finished line is empty
pub hand_back_empty : (m s : List ℕ) → as_place (head m 1) ≡ None → HandsBack m m s s (refused 104)
unfolding step handing_back first_to
hand_back_empty m s h = record {
  does = λ r. unchanged (refused 104) s (λ v. ap (first_to (view m r) s) (line_empty m r h v));
  unwritten = λ n e. refl;
  written = λ t x e. let y : ◌≡◌ {A = ℕ} 0 1 = cc in absurd (omega arith);
}

-- what a hand-back makes of a board whose line begins with x, by whether the block is another's
abbrev by : (m : List ℕ) (r : Rest) → List ℕ → Finished → List Finished → Bool → Stepped
by m r s x more t =
    if t then record { board = view m r; answer = refused 105; lent = s }
    else record { board = with_finished more (view m r); answer = handed x.request.ticket x.told; lent = with_told x.told s }

-- 105: it is another's block
pub hand_back_other : (m s : List ℕ) (p : ℕ) → as_place (head m 1) ≡ Some p → not_its_block s (finished_at m p) ≡ true → HandsBack m m s s (refused 105)
unfolding step handing_back first_to
hand_back_other m s p h o = record {
  does = λ r. unchanged (refused 105) s (λ v. ap (first_to (view m r) s) (line_first m r p h v) ∙ ap (by m r s (finished_at m p) _) o);
  unwritten = λ n e. refl;
  written = λ t x e. let y : ◌≡◌ {A = ℕ} 0 1 = cc in absurd (omega arith);
}

-- the first finished request is removed
module _ (m : List ℕ) (r : Rest) (p : ℕ) (h : as_place (head m 1) ≡ Some p) (v : Valid m r) where
  abbrev m₁ : List ℕ
  m₁ = popped m 1 p

  abbrev m' : List ℕ
  m' = put_last (popped m 1 p) 0 p

  abbrev more : List ℕ
  more = (row_first m v.rows 1 p (omega arith) h).0

  out : Out m m₁ 1 p more
  out = first_out m 1 p more v.rows (omega arith) (row_first m v.rows 1 p (omega arith) h).1

  carried : Carried m m₁ m' 1 0 p false more
  carried = carry false m m₁ m₁ 1 0 p more v.rows (omega arith) (omega arith) out (same_links m₁)

  -- nothing is written at any place
  unwritten : (x : ℕ) → x < 32 → x ≢ p → SamePlace m₁ m₁ x
  unwritten x l n = kept_place m₁ m₁ x (λ i d. refl)

  removed_view : view m' r ≡ with_finished (map (finished_at m) more) (view m r)
  unfolding view
  removed_view =
      board_same (view m' r) (with_finished (map (finished_at m) more) (view m r))
      (same_waiting m m' r r (λ w hw. read_same out carried (request_at m') (request_at m) (request_others out carried unwritten) (3 + w) (omega arith) (omega arith) (omega arith)))
      (read_same out carried (active_at m') (active_at m) (active_others out carried unwritten) 2 (omega arith) (omega arith) (omega arith))
      (read_left out carried (finished_at m') (finished_at m) (finished_others out carried unwritten) (omega arith) (omega arith))
      (same_freezes m m' r r (λ w hw. carried.kept (262 + w) (omega arith) ∙ out.kept (262 + w) (omega arith)))
      refl
      refl
      refl

  removed : (s : List ℕ) → not_its_block s (finished_at m p) ≡ false
      → Leaves m' r (handed (request_at m p).ticket (finished_at m p).told) (with_told (finished_at m p).told s) (step (view m r) (hand_back s))
  unfolding step handing_back first_to
  removed s o =
      subst (Leaves m' r _ _) (sym (ap (first_to (view m r) s) (line_first m r p h v) ∙ ap (by m r s (finished_at m p) _) o))
      (record { rows = carried.sound; board = removed_view; says = refl; lent = refl })

pub hand_back_first : (m s : List ℕ) (p : ℕ) → as_place (head m 1) ≡ Some p → not_its_block s (finished_at m p) ≡ false
    → HandsBack m (put_last (popped m 1 p) 0 p) s (with_told (finished_at m p).told s) (handed (request_at m p).ticket (finished_at m p).told)
hand_back_first m s p h o = record {
  does = λ r. leaves (λ v. removed m r p h v s o) (λ n z. let y : ◌≡◌ {A = ℕ} 0 1 = cc in absurd (omega arith));
  unwritten = λ n z. let y : ◌≡◌ {A = ℕ} 0 1 = cc in absurd (omega arith);
  written = λ t x z. let y : (finished_at m p).told ≡ x = cc in ap (λ (w : Told). with_told w s) y;
}
