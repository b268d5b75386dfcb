-- A tick, on the words. Assumes nothing.
use Rattle.std.specs.Prelude.{Option, Some, None, if◌then◌else◌}
use Rattle.std.proofs.Common.{◌≡◌, ℕ, zero, suc, ◌+◌, ◌-◌, ◌%◌, ◌^◌, ◌<◌, Bool, true, false, not, ◌||◌, ◌≢◌, List, [], ◌∷◌, map, length, get_or, set, sym, refl, ap, ◌∙◌, arith, get_or-set_same, cond, ltb}
use mathlib.Core.Bool.{or-true, or-false}
use mathlib.Core.List.{map-map}
use borrow.Author.Tests.{ltb-true, ltb-false}
use Rattle.board.specs.Plain.{◌=?◌}
use Rattle.board.specs.Board.{with_active, with_clock}
use Rattle.board.specs.Answers.{time}
use Rattle.board.specs.Calls.{late, time_passed, ticking, tick, step}
use Rattle.board.proofs.Choose.{if_ind}
use Rattle.rows.specs.Words.{next, owner, head, as_place}
use Rattle.rows.specs.Rows.{NotIn, Run, walk, row_of, SoundRows}
use Rattle.rows.proofs.Links.{off}
use Rattle.rows.proofs.Walks.{walk_end, walk_more}
use Rattle.rows.proofs.Shown.{run_of, map_run}
use Rattle.rows.proofs.Carry.{SameLinks, same_links, set_links, same_rows, same_read}
use Rattle.desk.specs.Words.{word_of, field, stores}
use Rattle.desk.specs.View.{request_at, active_at, finished_at, Rest, the_rest, view, Valid}
use Rattle.desk.specs.Promise.{Does}
use Rattle.desk.specs.Ticking.{marked, all_marked}
use Rattle.desk.proofs.Read.{SameRequest, SamePlace, same_request_at, same_active_at, same_finished_at, kept_place, then_place, then_request, stores_other}
use Rattle.desk.proofs.Views.{board_same, does, same_freezes, same_waiting}

-- ---- one place

-- where nothing is stored
unmarked : (m : List ℕ) (x : ℕ) → SamePlace m m x
unmarked m x = kept_place m m x (λ i l. refl)

module _ (m : List ℕ) (p clock : ℕ) (hp : p < 32) where
  abbrev is_late : Bool
  is_late = late clock (active_at m p)

  abbrev on : List ℕ
  on = set m (word_of p 12) 1

  -- no link is touched, nor any word before the places' own
  marked_links : (b : List ℕ) → SameLinks b m → SameLinks b (marked m p clock)
  unfolding marked
  marked_links b s = if_ind (SameLinks b) is_late on m (λ e. set_links b m (word_of p 12) 1 s (omega arith)) (λ e. s)

  marked_low : (i : ℕ) → i < 326 → get_or (marked m p clock) i 0 ≡ get_or m i 0
  unfolding marked
  marked_low i h = if_ind (λ b. get_or b i 0 ≡ get_or m i 0) is_late on m (λ e. off m (word_of p 12) i 1 (omega arith)) (λ e. refl)

  -- every request stays as it was
  on_request : (x : ℕ) → x < 32 → SameRequest m (set m (word_of p 12) 1) x
  on_request x h = record {
    ticket = off m (word_of p 12) (198 + x) 1 (omega arith);
    address = off m (word_of p 12) (230 + x) 1 (omega arith);
    fields = λ j l. off m (word_of p 12) (word_of x j) 1 (omega arith);
  }

  marked_request : (x : ℕ) → x < 32 → SameRequest m (marked m p clock) x
  unfolding marked
  marked_request x h = if_ind (λ b. SameRequest m b x) is_late on m (λ e. on_request x h) (λ e. (unmarked m x).request)

  -- and another place whole
  marked_other : (x : ℕ) → x < 32 → x ≢ p → SamePlace m (marked m p clock) x
  unfolding marked stores
  marked_other x h n = if_ind (λ b. SamePlace m b x) is_late on m (λ e. stores_other m p 12 (1 ∷ []) x (omega arith) h n) (λ e. unmarked m x)

  -- the place's own request is overdue if it was, or is late
  marked_active : length m ≡ 838 → active_at (marked m p clock) p ≡ time_passed clock (active_at m p)
  unfolding marked
  marked_active sz = go is_late
    where
      go : (c : Bool) → active_at (if c then on else m) p ≡ record { request = request_at m p; start = field m p 10; asked = not (field m p 11 =? 0); overdue = not (field m p 12 =? 0) || c }
      go true =
          rw (
            same_request_at (on_request p hp),
            off m (word_of p 12) (word_of p 10) 1 (omega arith),
            off m (word_of p 12) (word_of p 11) 1 (omega arith),
            get_or-set_same m (word_of p 12) 1 0 (omega arith),
            or-true (not (field m p 12 =? 0)),
          )
      go false = rw (or-false (not (field m p 12 =? 0)))

-- ---- the places of a run

-- what is read at another place than p
map_apart : {A : Type 0} (m : List ℕ) (k h p : ℕ) (f g : ℕ → A) (l : List ℕ) → ((x : ℕ) → x < 32 → x ≢ p → f x ≡ g x) → NotIn p l → Run m k h l → map f l ≡ map g l
map_apart m k h p f g [] e n r = refl
map_apart m k h p f g (q ∷ l) e n r = rw (e q r.1 (λ z. n.0 (sym z)), map_apart m k (next m q) p f g l e n.1 r.4)

-- a place of another row is not in it
not_in_run : (m : List ℕ) (k h x : ℕ) (l : List ℕ) → owner m x ≢ k → Run m k h l → NotIn x l
not_in_run m k h x [] n r = tt
not_in_run m k h x (p ∷ l) n r = (λ z. n (ap (owner m) z ∙ r.2), not_in_run m k (next m p) x l n r.4)

-- from m to m' what is active at the places l is marked, and nothing else
record Marked (clock : ℕ) (m m' l : List ℕ) : Type 0 where
  links : SameLinks m m'
  low : (i : ℕ) → i < 326 → get_or m' i 0 ≡ get_or m i 0
  request : (x : ℕ) → x < 32 → SameRequest m m' x
  other : (x : ℕ) → x < 32 → NotIn x l → SamePlace m m' x
  active : map (active_at m') l ≡ map (λ x. time_passed clock (active_at m x)) l

none_marked : (clock : ℕ) (m : List ℕ) → Marked clock m m []
none_marked clock m = record {
  links = same_links m;
  low = λ i h. refl;
  request = λ x h. (unmarked m x).request;
  other = λ x h n. unmarked m x;
  active = refl;
}

-- one more, in front
one_marked : (clock : ℕ) (m m' : List ℕ) (k h p : ℕ) (l b : List ℕ) → p < 32 → length m ≡ 838 → NotIn p l → Run b k h l → Marked clock (marked m p clock) m' l → Marked clock m m' (p ∷ l)
one_marked clock m m' k h p l b hp sz n r d =
    let s = marked_links m p clock hp m (same_links m) in record {
      links = record { size = d.links.size ∙ s.size; links = λ i l. d.links.links i l ∙ s.links i l };
      low = λ i l. d.low i l ∙ marked_low m p clock hp i l;
      request = λ x l. then_request (marked_request m p clock hp x l) (d.request x l);
      other = λ x l o. then_place (marked_other m p clock hp x l o.0) (d.other x l o.1);
      active =
          rw (
            same_active_at (d.other p hp n) ∙ marked_active m p clock hp sz,
            d.active ∙ map_apart b k h p (λ x. time_passed clock (active_at (marked m p clock) x)) (λ x. time_passed clock (active_at m x)) l
                (λ x l o. ap (time_passed clock) (same_active_at (marked_other m p clock hp x l o))) n r,
          );
    }

-- the links are those of b throughout
marked_run : (clock : ℕ) (b m : List ℕ) (k h : ℕ) (l : List ℕ) → length b ≡ 838 → SameLinks b m → Run b k h l → Marked clock m (all_marked m clock l) l
unfolding all_marked
marked_run clock b m k h [] sz s r = none_marked clock m
marked_run clock b m k h (p ∷ l) sz s r =
    one_marked clock m _ k (next b p) p l b r.1 (s.size ∙ sz) r.3 r.4 (marked_run clock b (marked m p clock) k (next b p) l sz (marked_links m p clock r.1 b s) r.4)

-- ---- along the active row, a step at a time

-- the links lead on as before
same_walk : (n : ℕ) (m m' : List ℕ) (h : ℕ) → SameLinks m m' → walk n m' h ≡ walk n m h
unfolding walk
same_walk zero m m' h s = refl
same_walk (suc n) m m' h s = go (ltb h 32) refl (same_walk n m m' (next m h) s)
  where
    go : (c : Bool) → ltb h 32 ≡ c → walk n m' (next m h) ≡ walk n m (next m h) → cond c (h ∷ walk n m' (next m' h)) [] ≡ cond c (h ∷ walk n m (next m h)) []
    go true e i = let l = ltb-true h 32 e in ap (λ (z : List ℕ). h ∷ z) (ap (walk n m') (s.links h (omega arith)) ∙ i)
    go false e i = refl

-- the places still before the walk
abbrev pub places_from : (n : ℕ) → List ℕ → Option ℕ → List ℕ
places_from n m None = []
places_from n m (Some p) = walk n m p

-- as a word names the first of them
pub places_named : (n : ℕ) (m : List ℕ) (h : ℕ) → places_from n m (as_place h) ≡ walk n m h
places_named n m h = go (ltb h 32) refl
  where
    go : (c : Bool) → ltb h 32 ≡ c → places_from n m (cond c (Some h) None) ≡ walk n m h
    go true e = refl
    go false e = sym (walk_end m n h (ltb-false h 32 e))

-- the walk begins with the whole row
pub walk_begun : (m : List ℕ) → row_of m 2 ≡ places_from 32 m (as_place (head m 2))
unfolding row_of
walk_begun m = sym (places_named 32 m (head m 2))

-- it ends with no place left
pub walk_over : (m : List ℕ) (clock n : ℕ) (at : Option ℕ) → n ≡ 0 → all_marked m clock (places_from n m at) ≡ m
unfolding all_marked walk
walk_over m clock n at e = ap (λ z. all_marked m clock (places_from z m at)) e ∙ go at
  where
    go : (o : Option ℕ) → all_marked m clock (places_from 0 m o) ≡ m
    go None = refl
    go (Some p) = refl

pub walk_ended : (m : List ℕ) (clock n : ℕ) (at : Option ℕ) → at ≡ None → all_marked m clock (places_from n m at) ≡ m
unfolding all_marked
walk_ended m clock n at e = ap (λ o. all_marked m clock (places_from n m o)) e

-- one more is marked
pub mark_more : (m : List ℕ) (clock i p : ℕ) → i < 32 → p < 32
    → all_marked m clock (places_from (32 - i) m (Some p)) ≡ all_marked (marked m p clock) clock (places_from (32 - (i + 1)) (marked m p clock) (as_place (next (marked m p clock) p)))
unfolding all_marked
mark_more m clock i p l h =
    let m' = marked m p clock in
    let n = 32 - (i + 1) in
    let s : SameLinks m m' = marked_links m p clock h m (same_links m) in
    let left : (32 - i) - 1 ≡ n = omega arith in
    ap (all_marked m clock) (walk_more m (32 - i) p (omega arith) h ∙ ap (λ z. p ∷ walk z m (next m p)) left)
    ∙ ap (all_marked m' clock) (sym (places_named n m' (next m' p) ∙ (ap (walk n m') (s.links p (omega arith)) ∙ same_walk n m m' (next m p) s)))

-- ---- the board: all active requests are marked, and the clock is the new one

module _ (m : List ℕ) (r : Rest) (clock : ℕ) (v : Valid m r) where
  abbrev m' : List ℕ
  m' = all_marked m clock (row_of m 2)

  abbrev r' : Rest
  r' = the_rest clock r.mark r.given

  row_marked : Marked clock m m' (row_of m 2)
  row_marked = marked_run clock m m 2 (head m 2) (row_of m 2) v.rows.linked.size (same_links m) (run_of m v.rows 2 (omega arith))

  ticked_rows : SoundRows m' × ((k : ℕ) → k < 67 → row_of m' k ≡ row_of m k)
  ticked_rows = same_rows m m' row_marked.links v.rows

  ticked_view : view m' r' ≡ with_active (map (time_passed clock) (view m r).active) (with_clock clock (view m r))
  unfolding view
  ticked_view =
      board_same (view m' r') (with_active (map (time_passed clock) (view m r).active) (with_clock clock (view m r)))
      (same_waiting m m' r r' (λ w hw. same_read m m' (request_at m') (request_at m) row_marked.links v.rows (λ x hx. same_request_at (row_marked.request x hx)) (3 + w) (omega arith)))
      (ap (map (active_at m')) (ticked_rows.1 2 (omega arith)) ∙ (row_marked.active ∙ sym (map-map (time_passed clock) (active_at m) (row_of m 2))))
      (ap (map (finished_at m')) (ticked_rows.1 1 (omega arith))
      ∙ map_run m 1 (head m 1) (finished_at m') (finished_at m) (row_of m 1)
      (λ x hx o. same_finished_at (row_marked.other x hx (not_in_run m 2 (head m 2) x (row_of m 2) (omega arith) (run_of m v.rows 2 (omega arith)))))
      (run_of m v.rows 1 (omega arith)))
      (same_freezes m m' r r' (λ u hu. row_marked.low (262 + u) (omega arith)))
      refl
      refl
      refl

pub tick_does : (m : List ℕ) (r : Rest) (n : ℕ) → n ≡ suc r.clock % 2 ^ 32 → Does m (all_marked m n (row_of m 2)) r (the_rest n r.mark r.given) tick (time n) []
unfolding step ticking view
tick_does m r n e =
    does
    (λ v. (ticked_rows m r n v).0)
    (λ v. ticked_view m r n v ∙ ap (λ z. with_active (map (time_passed z) (view m r).active) (with_clock z (view m r))) e)
    (λ v. ap time e)
    (λ v. refl)
    (λ k z. let y : ◌≡◌ {A = ℕ} 0 1 = cc in absurd (omega arith))
