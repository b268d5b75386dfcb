-- Abort by ticket, on the words. Assumes nothing.
use Rattle.std.proofs.Common.{◌≡◌, ℕ, zero, suc, ◌+◌, ◌<◌, List, [], ◌∷◌, ◌++◌, map, sym, refl, ap, ◌∙◌, subst, arith}
use native.Mathlib.Decide.{ℕ_discrete}
use mathlib.Core.Logic.{by_cases}
use Rattle.std.specs.Prelude.{Option, None, Some}
use Rattle.board.specs.declared.Ticket.{Ticket}
use Rattle.board.specs.declared.Unit.{Unit}
use Rattle.board.specs.declared.Request.{Request}
use Rattle.board.specs.Board.{the_unit, same_ticket, of_units, units, find, without, is_frozen, frozen, Board, all_waiting, with_waiting}
use Rattle.board.specs.Answers.{refused, done}
use Rattle.board.specs.Ending.{told, end_unmoved, to_finished}
use Rattle.board.specs.Calls.{ended_waiting, asked, aborted, aborting, abort, step}
use Rattle.board.proofs.Choose.{both_ifs, none≢some}
use Rattle.board.proofs.Weigh.{find_each}
use Rattle.ends.proofs.Laws.{capped_request_same}
use Rattle.rows.specs.declared.Spot.{Spot}
use Rattle.rows.specs.Rows.{row_of}
use Rattle.rows.specs.Searches.{spot_of}
use Rattle.desk.specs.declared.Waiting.{Waiting}
use Rattle.desk.specs.Words.{freeze_at, ToldFits}
use Rattle.desk.specs.View.{request_at, Rest, view, Valid}
use Rattle.desk.specs.Promise.{Does}
use Rattle.desk.specs.Aborts.{NoneBelow, WaitsOn, aborted_told, aborted_words, asked_words}
use Rattle.desk.proofs.Views.{Leaves, leaves, unchanged, waiting_on, freeze_on}
use Rattle.desk.proofs.Freezes.{frozen_back}
use Rattle.desk.proofs.Splits.{find_none, find_parted, without_parted}
use Rattle.desk.proofs.Sought.{Sought, sought, not_sought}
use Rattle.desk.proofs.Finishes.{finished_carried, finished_waiting}
use Rattle.desk.proofs.Reports.{active_none, found_active}
use Rattle.desk.proofs.Marks.{asked_rows, asked_view}

-- ---- searches through the units' lists, one after the other

module _ {A : Type 0} (ticket_of : A → Ticket) (t : Ticket) where
  -- what is found in the first list is found
  find_first : (xs ys : List A) (x : A) → find ticket_of t xs ≡ Some x → find ticket_of t (xs ++ ys) ≡ Some x
  unfolding find
  find_first [] ys x = λ e. none≢some e
  find_first (z ∷ zs) ys x =
      both_ifs (λ o o'. o ≡ Some x → o' ≡ Some x) (same_ticket (ticket_of z) t) (Some z) (find ticket_of t zs) (Some z) (find ticket_of t (zs ++ ys)) (λ e. e) (find_first zs ys x)

  -- where the first has none, the second is searched
  find_second : (xs ys : List A) → find ticket_of t xs ≡ None → find ticket_of t (xs ++ ys) ≡ find ticket_of t ys
  unfolding find
  find_second [] ys = λ e. refl
  find_second (z ∷ zs) ys =
      both_ifs (λ o o'. o ≡ None → o' ≡ find ticket_of t ys) (same_ticket (ticket_of z) t) (Some z) (find ticket_of t zs) (Some z) (find ticket_of t (zs ++ ys)) (λ e. none≢some (sym e)) (find_second zs ys)

  units_none : (n : ℕ) (f : Unit → List A) → ((w : ℕ) → w < n → find ticket_of t (f (the_unit w)) ≡ None) → find ticket_of t (of_units n f) ≡ None
  unfolding of_units find
  units_none zero f e = refl
  units_none (suc n) f e = find_second (of_units n f) (f (the_unit n)) (units_none n f (λ w h. e w (omega arith))) ∙ e n (omega arith)

  -- the first unit whose list has it
  units_first : (n u : ℕ) (f : Unit → List A) (x : A) → u < n → ((w : ℕ) → w < u → find ticket_of t (f (the_unit w)) ≡ None) → find ticket_of t (f (the_unit u)) ≡ Some x → find ticket_of t (of_units n f) ≡ Some x
  unfolding of_units
  units_first zero u f x h e k = absurd (omega arith)
  units_first (suc n) u f x h e k =
      by_cases (ℕ_discrete u n)
      (λ z.
      let here : find ticket_of t (f (the_unit n)) ≡ Some x = subst (λ i. find ticket_of t (f (the_unit i)) ≡ Some x) z k in
      let before : (w : ℕ) → w < n → find ticket_of t (f (the_unit w)) ≡ None = λ w l. e w (omega arith) in
      find_second (of_units n f) (f (the_unit n)) (units_none n f before) ∙ here)
      (λ d. find_first (of_units n f) (f (the_unit n)) x (units_first n u f x (omega arith) e k))

-- ---- what the search through the rows says of the board

abbrev ticket_of_request : Request → Ticket
ticket_of_request q = q.ticket

-- a request's end while it waits, by its unit and ticket
ended_waiting_of : (q : Request) (b : Board) (u : Unit) (t : Ticket) → q.unit ≡ u → q.ticket ≡ t
    → ended_waiting q b ≡ to_finished q (end_unmoved 0x02 q) (frozen b u) (with_waiting u (without ticket_of_request t (b.waiting u)) b)
unfolding ended_waiting
ended_waiting_of q b u t eu et = ap (λ x. to_finished q (end_unmoved 0x02 q) (frozen b x) (with_waiting x (without ticket_of_request q.ticket (b.waiting x)) b)) eu ∙ ap (λ x. to_finished q (end_unmoved 0x02 q) (frozen b u) (with_waiting u (without ticket_of_request x (b.waiting u)) b)) et

module _ (m : List ℕ) (r : Rest) (t : Ticket) (v : Valid m r) where
  abbrev b : Board
  b = view m r

  unit_none : (w : ℕ) → w < 64 → spot_of m (3 + w) t.0 ≡ None → find ticket_of_request t (b.waiting (the_unit w)) ≡ None
  unit_none w h e =
      ap (find ticket_of_request t) (waiting_on m r (the_unit w) h)
      ∙ find_none ticket_of_request m (request_at m) (λ x. refl) t (row_of m (3 + w)) (not_sought m (3 + w) t e)

  waits_nowhere : WaitsOn m t.0 None → find ticket_of_request t (all_waiting b) ≡ None
  waits_nowhere o = units_none ticket_of_request t units b.waiting (λ w h. unit_none w h (o w h))

  module _ (u : ℕ) (q : Option ℕ) (p : ℕ) (hu : u < 64) (o : NoneBelow m t.0 u) (s : Sought m (3 + u) t q p) where
    found_here : find ticket_of_request t (b.waiting (the_unit u)) ≡ Some (request_at m p)
    found_here =
        ap (find ticket_of_request t) (waiting_on m r (the_unit u) hu ∙ ap (map (request_at m)) s.parted)
        ∙ find_parted ticket_of_request m (request_at m) (λ x. refl) t s.a s.b p s.before s.ticket

    found_waiting : find ticket_of_request t (all_waiting b) ≡ Some (request_at m p)
    found_waiting = units_first ticket_of_request t units u b.waiting (request_at m p) hu (λ w h. unit_none w (omega arith) (o w h)) found_here

    -- what waits, waits on its own unit
    own_unit : (request_at m p).unit ≡ the_unit u
    own_unit = find_each ticket_of_request (λ q. q.unit ≡ the_unit u) t (b.waiting (the_unit u)) (request_at m p) (v.sound.own_unit (the_unit u)) found_here

    own_ticket : (request_at m p).ticket ≡ t
    own_ticket = ap (λ n. record { 0 = n }) s.ticket

    left_waiting : without ticket_of_request t (b.waiting (the_unit u)) ≡ map (request_at m) (s.a ++ s.b)
    left_waiting =
        ap (without ticket_of_request t) (waiting_on m r (the_unit u) hu ∙ ap (map (request_at m)) s.parted)
        ∙ without_parted ticket_of_request m (request_at m) (λ x. refl) t s.a s.b p s.before s.ticket

    told_same : told (end_unmoved 0x02 (request_at m p)) (frozen b (the_unit u)) ≡ aborted_told m u p
    unfolding aborted_told
    told_same =
        rw (capped_request_same (request_at m p) (omega arith), ap is_frozen (freeze_on m r (the_unit u) hu) ∙ frozen_back (freeze_at m u))

    aborted_view : ToldFits (aborted_told m u p) → view (aborted_words m u q p) r ≡ ended_waiting (request_at m p) b
    unfolding aborted_words
    aborted_view f =
        finished_waiting m (3 + u) q p (aborted_told m u p) s.a s.b v.rows (omega arith) (omega arith) s.parted s.last f r (the_unit u) hu refl
        ∙ sym (ended_waiting_of (request_at m p) b (the_unit u) t own_unit own_ticket ∙ rw (left_waiting, told_same))

-- ---- the call

pub abort_waiting_done : (m : List ℕ) (r : Rest) (t : Ticket) (x : Waiting) → WaitsOn m t.0 (Some x) → ToldFits (aborted_told m x.unit x.spot.place)
    → Does m (aborted_words m x.unit x.spot.before x.spot.place) r r (abort t) done []
unfolding step aborting aborted aborted_words
abort_waiting_done m r t x o f =
    let u = x.unit in
    let q = x.spot.before in
    let p = x.spot.place in
    let s = sought m (3 + u) t q p o.1 in
    leaves
    (λ v.
    subst (λ y. Leaves (aborted_words m u q p) r done [] (aborted (view m r) t y)) (sym (found_waiting m r t v u q p o.0 o.2 s))
    (record {
      rows = (finished_carried m (3 + u) q p (aborted_told m u p) s.a s.b v.rows (omega (arith, o.0)) (omega arith) s.parted s.last f).sound;
      board = aborted_view m r t v u q p o.0 o.2 s f;
      says = refl;
      lent = refl;
    }))
    (λ n h. let k : ◌≡◌ {A = ℕ} 0 1 = cc in absurd (omega arith))

pub abort_active_done : (m : List ℕ) (r : Rest) (t : Ticket) (x : Spot) → WaitsOn m t.0 None → spot_of m 2 t.0 ≡ Some x
    → Does m (asked_words m x.place) r r (abort t) done []
unfolding step aborting aborted asked
abort_active_done m r t x o at =
    let q = x.before in
    let p = x.place in
    let s = sought m 2 t q p at in
    leaves
    (λ v.
    rw (waits_nowhere m r t v o, found_active m r t q p s v.rows)
    (record {
      rows = (asked_rows m r t q p s v).0;
      board = asked_view m r t q p s v;
      says = refl;
      lent = refl;
    }))
    (λ n h. let k : ◌≡◌ {A = ℕ} 0 1 = cc in absurd (omega arith))

pub abort_refused : (m : List ℕ) (r : Rest) (t : Ticket) → WaitsOn m t.0 None → spot_of m 2 t.0 ≡ None → Does m m r r (abort t) (refused 0x03) []
unfolding step aborting aborted asked
abort_refused m r t o e = unchanged (refused 0x03) [] (λ v. rw (waits_nowhere m r t v o, active_none m r t e v))

-- one unit more without it
pub none_more : (m : List ℕ) (t u : ℕ) → NoneBelow m t u → spot_of m (3 + u) t ≡ None → NoneBelow m t (u + 1)
none_more m t u e here w h = by_cases (ℕ_discrete w u) (λ z. subst (λ i. spot_of m (3 + i) t ≡ None) (sym z) here) (λ d. e w (omega arith))
