-- A bus reset, on the words: one active request after the other ends, smallest ticket first. Assumes nothing.
use Rattle.std.specs.Prelude.{Option, Some, None, option_and_then, if◌then◌else◌}
use Rattle.std.proofs.Common.{◌≡◌, ℕ, ◌+◌, ◌<◌, ◌≤◌, true, not, ◌||◌, ◌≢◌, List, [], ◌∷◌, ◌++◌, map, sym, refl, ap, ◌∙◌, subst, arith}
use mathlib.Core.Bool.{or-true}
use Rattle.board.specs.declared.Ticket.{Ticket}
use Rattle.board.specs.declared.Request.{Request}
use Rattle.board.specs.declared.Active.{Active}
use Rattle.board.specs.declared.End.{End}
use Rattle.board.specs.declared.Told.{Told}
use Rattle.board.specs.Plain.{◌=?◌, Each}
use Rattle.board.specs.Board.{without, insert, by_ticket, ticket_of_active, with_active}
use Rattle.board.specs.Answers.{done}
use Rattle.board.specs.Ending.{end_unmoved, told, ended_active}
use Rattle.board.specs.Calls.{all_ended, resetting, reset, step}
use Rattle.board.proofs.Choose.{one_ticket, when_below, unless_below}
use Rattle.board.proofs.Weigh.{weigh, weigh_append, weigh_map, weigh_length, each_map, each_by_ticket}
use Rattle.ends.specs.Closing.{bad}
use Rattle.ends.proofs.Laws.{capped_request_same}
use Rattle.rows.specs.Words.{ticket_at}
use Rattle.rows.specs.Rows.{row_of, SoundRows}
use Rattle.rows.specs.declared.Spot.{Spot}
use Rattle.rows.specs.Searches.{spot_of, smallest_ticket}
use Rattle.rows.proofs.Shown.{row_short}
use Rattle.rows.proofs.Carry.{same_rows}
use Rattle.rows.proofs.Search.{smallest_row, smallest_none}
use Rattle.desk.specs.Words.{freeze_at, unit_at, ToldFits, finished_words, frozen_if}
use Rattle.desk.specs.View.{request_at, active_at, Rest, view, Valid}
use Rattle.desk.specs.Resets.{reset_told, reset_words, smallest_spot}
use Rattle.desk.specs.Promise.{Does}
use Rattle.desk.proofs.Views.{leaves}
use Rattle.desk.proofs.Freezes.{frozen_if_links}
use Rattle.desk.proofs.Sought.{Sought, sought, not_sought}
use Rattle.desk.proofs.Tickets.{Once, once_active, once_others}
use Rattle.desk.proofs.Finishes.{finished_carried}
use Rattle.desk.proofs.Reports.{left_active, ended_board, ended_view}

-- ---- each element

each_both : {A : Type 0} (P Q R : A → Type 0) → ((x : A) → P x → Q x → R x) → (l : List A) → Each P l → Each Q l → Each R l
unfolding Each
each_both P Q R f [] h k = tt
each_both P Q R f (x ∷ l) h k = (f x h.0 k.0, each_both P Q R f l h.1 k.1)

-- without the one at which the list is parted
each_left : {A : Type 0} (P : A → Type 0) (a b : List A) (p : A) → Each P (a ++ (p ∷ b)) → Each P (a ++ b)
unfolding Each
each_left P [] b p h = h.1
each_left P (x ∷ a) b p h = (h.0, each_left P a b p h.1)

-- ---- in order of tickets the smallest comes first

module _ {A : Type 0} (ticket_of : A → Ticket) where
  insert_first : (y : A) (l : List A) → Each (λ x. (ticket_of y).0 < (ticket_of x).0) l → insert ticket_of y l ≡ y ∷ l
  unfolding insert Each
  insert_first y [] h = refl
  insert_first y (x ∷ l) h = rw (when_below h.0)

  insert_after : (y x : A) (l : List A) → (ticket_of x).0 < (ticket_of y).0 → insert ticket_of y (x ∷ l) ≡ x ∷ insert ticket_of y l
  unfolding insert
  insert_after y x l h = let k : (ticket_of x).0 ≤ (ticket_of y).0 = omega arith in rw (unless_below k)

  by_ticket_first : (g : ℕ → A) (a b : List ℕ) (p : ℕ) → Each (λ x. (ticket_of (g p)).0 < (ticket_of (g x)).0) (a ++ b) → by_ticket ticket_of (map g (a ++ (p ∷ b))) ≡ g p ∷ by_ticket ticket_of (map g (a ++ b))
  unfolding by_ticket Each
  by_ticket_first g [] b p h =
      let P : A → Type 0 = λ y. (ticket_of (g p)).0 < (ticket_of y).0 in
      insert_first (g p) (by_ticket ticket_of (map g b)) (each_by_ticket ticket_of P (map g b) (each_map P g (λ x. P (g x)) (λ x k. k) b h))
  by_ticket_first g (x ∷ a) b p h = ap (insert ticket_of (g x)) (by_ticket_first g a b p h.1) ∙ insert_after (g x) (g p) (by_ticket ticket_of (map g (a ++ b))) h.0

-- ---- the smallest ticket of the active ones

-- where it stands nowhere, none is active
none_smallest : (m : List ℕ) → smallest_spot m ≡ None → row_of m 2 ≡ []
unfolding smallest_spot
none_smallest m e = go (smallest_ticket m 2) refl e
  where
    go : (o : Option Ticket) → smallest_ticket m 2 ≡ o → option_and_then (λ t. spot_of m 2 t.0) o ≡ None → row_of m 2 ≡ []
    go None z e = smallest_none m 2 z
    go (Some t) z e = absurd ((smallest_row m 2 t z).stands (not_sought m 2 t e))

-- or it stands at place p
record Foremost (m : List ℕ) (q : Option ℕ) (p : ℕ) : Type 0 where
  ticket : Ticket
  least : Each (λ x. ticket.0 ≤ ticket_at m x) (row_of m 2)
  at : Sought m 2 ticket q p

foremost : (m : List ℕ) (x : Spot) → smallest_spot m ≡ Some x → Foremost m x.before x.place
unfolding smallest_spot
foremost m x e = go (smallest_ticket m 2) refl e
  where
    go : (o : Option Ticket) → smallest_ticket m 2 ≡ o → option_and_then (λ t. spot_of m 2 t.0) o ≡ Some x → Foremost m x.before x.place
    go None z e = let w : ◌≡◌ {A = ℕ} 0 1 = cc in absurd (omega arith)
    go (Some t) z e = record { ticket = t; least = (smallest_row m 2 t z).least; at = sought m 2 t x.before x.place e }

-- what the active tickets weigh
abbrev weigh_active : (ℕ → ℕ) → List ℕ → ℕ
weigh_active f m = weigh (λ x. f (ticket_at m x)) (row_of m 2)

-- the others' tickets are above it
above : (m : List ℕ) (q : Option ℕ) (p : ℕ) (f : Foremost m q p) → Once m (row_of m 2) → Each (λ x. ticket_at m p < ticket_at m x) (f.at.a ++ f.at.b)
above m q p f o =
    let s = f.at in
    let least : Each (λ x. ticket_at m p ≤ ticket_at m x) (row_of m 2) = subst (λ n. Each (λ x. n ≤ ticket_at m x) (row_of m 2)) (sym s.ticket) f.least in
    each_both (λ x. ticket_at m p ≤ ticket_at m x) (λ x. ticket_at m x ≢ ticket_at m p) (λ x. ticket_at m p < ticket_at m x) (λ x h n. omega arith) (s.a ++ s.b)
    (each_left (λ x. ticket_at m p ≤ ticket_at m x) s.a s.b p (subst (Each (λ x. ticket_at m p ≤ ticket_at m x)) s.parted least))
    (once_others m s.a s.b p (subst (Once m) s.parted o))

-- ---- it ends

module _ (m : List ℕ) (r : Rest) (v : SoundRows m) (q : Option ℕ) (p : ℕ) (w : Foremost m q p) (f : ToldFits (reset_told m p)) where
  abbrev s : Sought m 2 w.ticket q p
  s = w.at

  abbrev m' : List ℕ
  m' = reset_words m q p

  abbrev end : End
  end = end_unmoved 0x0E (request_at m p)

  -- its unit is frozen then, whatever it was before
  tells : reset_told m p ≡ told end (not (freeze_at m (unit_at m p) =? 0) || bad end.base)
  unfolding reset_told end_unmoved
  tells =
      ap (λ (k : Request). told (end_unmoved 0x0E k) true) (capped_request_same (request_at m p) (omega arith))
      ∙ ap (told end) (sym (or-true (not (freeze_at m (unit_at m p) =? 0))))

  reset_view : view m' r ≡ ended_active (request_at m p) end (with_active (map (active_at m) (s.a ++ s.b)) (view m r))
  unfolding reset_words ended_board end_unmoved
  reset_view =
      ap (λ (x : Told). view (frozen_if (finished_words m 2 q p x) (unit_at m p) true) r) tells
      ∙ (ended_view m r w.ticket q p s v end (subst ToldFits tells f)
      ∙ ap (λ l. ended_active (request_at m p) end (with_active l (view m r)))
      (ap (λ t. without ticket_of_active t (view m r).active) (one_ticket s.ticket) ∙ left_active m r w.ticket q p s v))

  reset_rows : SoundRows m'
  unfolding reset_words
  reset_rows =
      (same_rows (finished_words m 2 q p (reset_told m p)) m' (frozen_if_links (finished_words m 2 q p (reset_told m p)) (unit_at m p) true (omega arith))
      (finished_carried m 2 q p (reset_told m p) s.a s.b v (omega arith) (omega arith) s.parted s.last f).sound).0

  -- the active tickets weigh less by its own
  reset_weigh : (g : ℕ → ℕ) → weigh_active g m' + g (ticket_at m p) ≡ weigh_active g m
  unfolding view ended_active
  reset_weigh g =
      let on : Active → ℕ = λ a. g a.request.ticket.0 in
      let left : map (active_at m') (row_of m' 2) ≡ map (active_at m) (s.a ++ s.b) = ap (λ b. b.active) reset_view in
      let weight : ℕ → ℕ = λ x. g (ticket_at m x) in
      omega (
        arith,
        weigh_map on (active_at m') (row_of m' 2),
        ap (weigh on) left,
        weigh_map on (active_at m) (s.a ++ s.b),
        weigh_append weight s.a s.b,
        weigh_append weight s.a (p ∷ s.b),
        ap (weigh weight) s.parted,
      )

  -- a bus reset makes the same of the board as before
  reset_same : Once m (row_of m 2) → (step (view m' r) reset).board ≡ (step (view m r) reset).board
  unfolding step resetting ended_active all_ended view
  reset_same o =
      ap (λ b. (step b reset).board) reset_view
      ∙ ap (λ l. all_ended l (with_active [] (view m r)))
      (sym (ap (λ l. by_ticket ticket_of_active (map (active_at m) l)) s.parted ∙ by_ticket_first ticket_of_active (active_at m) s.a s.b p (above m q p w o)))

-- ---- one after the other

-- i requests have ended from m₀ to m, and a bus reset makes the same of both
pub record Resetting (m₀ m : List ℕ) (r : Rest) (i : ℕ) : Type 0 where
  pub rows : SoundRows m
  pub once : Once m (row_of m 2)
  pub few : i + weigh_active (λ n. 1) m ≤ 32
  pub board : (step (view m r) reset).board ≡ (step (view m₀ r) reset).board

pub none_reset : (m : List ℕ) (r : Rest) → Valid m r → Resetting m m r 0
none_reset m r v = record {
  rows = v.rows;
  once = once_active m r v;
  few = omega (arith, weigh_length (row_of m 2), row_short m v.rows 2 (omega arith));
  board = refl;
}

pub one_reset : (m₀ m : List ℕ) (r : Rest) (i : ℕ) (x : Spot) → smallest_spot m ≡ Some x → ToldFits (reset_told m x.place) → Resetting m₀ m r i → Resetting m₀ (reset_words m x.before x.place) r (i + 1)
one_reset m₀ m r i x e f d =
    let w = foremost m x e in
    let less = reset_weigh m r d.rows x.before x.place w f in record {
      rows = reset_rows m r d.rows x.before x.place w f;
      once = λ t. omega (arith, d.once t, less (λ n. if n =? t then 1 else 0));
      few = omega (arith, d.few, less (λ n. 1));
      board = reset_same m r d.rows x.before x.place w f d.once ∙ d.board;
    }

-- ---- none is left

weightless : (l : List ℕ) → weigh (λ x. 1) l ≡ 0 → l ≡ []
weightless [] e = refl
weightless (x ∷ l) e = absurd (omega arith)

module _ (m₀ m : List ℕ) (i : ℕ) (d : (r : Rest) → Valid m₀ r → Resetting m₀ m r i) where
  all_reset : ((r : Rest) → Resetting m₀ m r i → row_of m 2 ≡ []) → (r : Rest) → Does m₀ m r r reset done []
  unfolding step resetting all_ended by_ticket view
  all_reset l r =
      leaves
      (λ v.
      let none : (view m r).active ≡ [] = ap (map (active_at m)) (l r (d r v)) in record {
        rows = (d r v).rows;
        board = sym (ap (λ a. all_ended (by_ticket ticket_of_active a) (with_active [] (view m r))) none ∙ ap (λ a. with_active a (view m r)) (sym none)) ∙ (d r v).board;
        says = refl;
        lent = refl;
      })
      (λ n z. let k : ◌≡◌ {A = ℕ} 0 1 = cc in absurd (omega arith))

  -- as no smallest ticket stands anywhere, or by the number of steps
  pub reset_none : smallest_spot m ≡ None → (r : Rest) → Does m₀ m r r reset done []
  reset_none e = all_reset (λ r d. none_smallest m e)

  pub reset_over : 32 ≤ i → (r : Rest) → Does m₀ m r r reset done []
  reset_over h = all_reset (λ r e. weightless (row_of m 2) (omega (arith, e.few)))
