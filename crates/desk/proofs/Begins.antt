-- A fresh memory shows a fresh board. Assumes nothing.
use Rattle.std.proofs.Common.{◌≡◌, ℕ, zero, suc, ◌+◌, ◌<◌, ◌≤◌, ◌≢◌, List, [], map, length, set, sym, refl, ap, ◌∙◌, subst, arith, get_or-set_same}
use Rattle.board.specs.Plain.{◌=?◌, ◌<?◌}
use Rattle.board.specs.Board.{the_unit, units, fresh}
use Rattle.board.specs.Limits.{Sound}
use Rattle.board.proofs.Choose.{by_cases, same, differ, below, not_below}
use Rattle.board.proofs.Limits.{soundness}
use Rattle.rows.specs.Rows.{row_of, Begun}
use Rattle.rows.proofs.Links.{off}
use Rattle.rows.proofs.Carry.{SameLinks, same_links, set_links, same_rows}
use Rattle.desk.specs.Words.{freeze_at}
use Rattle.desk.specs.View.{request_at, active_at, finished_at, freeze_of, Rest, the_rest, view}
use Rattle.desk.specs.Begins.{cleared}
use Rattle.desk.proofs.Freezes.{fresh_back}
use Rattle.desk.proofs.Views.{board_same, waiting_on, waiting_nowhere, freeze_on, freeze_nowhere}
use Rattle.desk.specs.Promise.{Fresh}

-- ---- the freeze words

-- no link is touched
cleared_links : (n : ℕ) (m : List ℕ) → SameLinks m (cleared n m)
unfolding cleared
cleared_links zero m = same_links m
cleared_links (suc n) m = set_links m (cleared n m) (262 + n) 0 (cleared_links n m) (omega arith)

-- each that was cleared reads 0
cleared_word : (n : ℕ) (m : List ℕ) (u : ℕ) → length m ≡ 838 → n ≤ units → u < n → freeze_at (cleared n m) u ≡ 0
unfolding cleared
cleared_word zero m u sz h l = absurd (omega arith)
cleared_word (suc n) m u sz h l =
    by_cases (u =? n)
    (λ e. subst (λ v. freeze_at (set (cleared n m) (262 + n) 0) v ≡ 0) (sym (same e)) (get_or-set_same (cleared n m) (262 + n) 0 0 (let z = (cleared_links n m).size in omega arith)))
    (λ e. let d : u ≢ n = differ e in off (cleared n m) (262 + n) (262 + u) 0 (omega arith) ∙ cleared_word n m u sz (omega arith) (omega arith))

-- none cleared, and one more, as the loop clears them
pub cleared_none : (m : List ℕ) → cleared 0 m ≡ m
unfolding cleared
cleared_none m = refl

pub cleared_next : (n : ℕ) (m : List ℕ) → cleared (n + 1) m ≡ set (cleared n m) (262 + n) 0
unfolding cleared
cleared_next n m = let e : n + 1 ≡ suc n = omega arith in ap (λ k. cleared k m) e

-- ---- the board, from rows that were begun

module _ (m : List ℕ) (b : Begun m) where
  abbrev m' : List ℕ
  m' = cleared 64 m

  abbrev r : Rest
  r = the_rest 0 (the_unit 63) 0

  -- every row but that of the free places is empty
  row_empty : (k : ℕ) → k < 67 → k ≢ 0 → row_of m' k ≡ []
  row_empty k h n = (same_rows m m' (cleared_links 64 m) b.sound).1 k h ∙ b.empty k h n

  fresh_view : view m' r ≡ fresh
  unfolding view fresh
  fresh_view =
      board_same (view m' r) fresh
      (λ u.
      by_cases (u.0 <? units)
      (λ h. let l = below h in waiting_on m' r u l ∙ ap (map (request_at m')) (row_empty (3 + u.0) (omega arith) (omega arith)))
      (λ h. waiting_nowhere m' r u (not_below h)))
      (ap (map (active_at m')) (row_empty 2 (omega arith) (omega arith)))
      (ap (map (finished_at m')) (row_empty 1 (omega arith) (omega arith)))
      (λ u.
      by_cases (u.0 <? units)
      (λ h. freeze_on m' r u (below h) ∙ (ap freeze_of (cleared_word 64 m u.0 b.sound.linked.size (omega arith) (below h)) ∙ sym fresh_back))
      (λ h. freeze_nowhere m' r u (not_below h)))
      refl
      refl
      refl

  pub begins : Fresh (cleared 64 m)
  begins = record {
    valid = record { rows = (same_rows m m' (cleared_links 64 m) b.sound).0; sound = subst Sound (sym fresh_view) soundness.fresh_sound };
    board = fresh_view;
  }
