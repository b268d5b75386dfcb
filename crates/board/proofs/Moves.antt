-- Every call makes one of ten moves on the board. What is to be shown of all calls is then shown of the ten moves, which is
-- what the files after this one do. Assumes nothing.
use Rattle.std.specs.Prelude.{Option, Some, None, Result, Ok, Err}
use mathlib.Core.Path.{◌≡◌, refl, sym, subst, subst₂}
use mathlib.Core.Bool.{Bool, true, false, cond, ◌&&◌}
use mathlib.Core.List.{List, [], ◌∷◌, map}
use Prim.Native.Nat.{ℕ, zero, suc, ◌+◌, ◌-◌, ◌%◌, ◌^◌, ◌≤◌, ◌<◌}
use native.Mathlib.Nat.{mod-lt}
use native.Mathlib.Omega.{arith}
use lib.Dec.{ltb, lit<}
use lib.IntN.{pos, negsuc, ◌-ℤ◌}
use lib.ListN.{length}
use Rattle.board.specs.Types.{Ticket, Unit, Request, Active, Finished, Found, Event, End, Implausible}
use Rattle.board.specs.Plain.{◌<?◌, ◌≤?◌, Row, ◌⇒◌, first_that_applies, Each}
use Rattle.board.specs.Board.{units, find, without, by_ticket, ticket_of_active, data_length, sense_length, places, most_active, last_ticket, Freeze, one_freeze, one_release, freeze_number, Board, all_waiting, live, next_ticket, with_active, with_finished, with_freeze, with_clock}
use Rattle.board.specs.Block.{whole_block, fields, request}
use Rattle.board.specs.Answers.{Answer, refused, taken, sent, nothing, done, before, time, first, empty, handed, Stepped, says}
use Rattle.board.specs.TakingIn.{Verdict, refuse, accept, address_held, checks_of_block, checks_of_board, verdict, joined, judged, taking_in}
use Rattle.board.specs.Sending.{eligible, after, rotation, sent_from, sent_first, sent_by, sending}
use Rattle.board.specs.Ending.{sense_looked_at, sense_bytes, Base, base, refusal_102, base_status, end_by_event, implausible, ending_by, ending, ended_active, reported_by, reported, reporting}
use Rattle.board.specs.Calls.{ended_waiting, ask, asked, aborted, aborting, freezing, time_passed, ticking, all_ended, resetting, first_of, looking, not_its_block, first_to, handing_back, Call, take_in, send, event, abort, freeze, release, tick, reset, look, hand_back, step}
use Rattle.board.specs.Limits.{InRange}
use Rattle.board.proofs.Choose.{if_ind, neither, not_below, not_at_most}
use Rattle.board.proofs.Weigh.{find_ticket, find_each, find_of_units}

-- what waits, waits on its own unit
abbrev pub Home : Board → Type 0
Home b = (u : Unit) → Each (λ q. q.unit ≡ u) (b.waiting u)

-- what the checks leave to know of a request that passes them
pub record Joins (b : Board) (q : Request) : Type 0 where
  pub ticket : q.ticket ≡ next_ticket b
  pub unit : q.unit.0 < 56
  pub length_small : q.length ≤ 0xFFFFFF
  pub address_free : address_held b q.address ≡ false
  pub ticket_left : b.given < last_ticket
  pub room : length (live b) < places

-- what a send needs to know of the unit that it picks
pub record Goes (b : Board) (u : Unit) : Type 0 where
  pub unit : u.0 < units
  pub able : eligible b u ≡ true
  pub fewer : length b.active < most_active

-- an answer that gives no ticket, hands none back and sends nothing
pub data Idle : Answer → Type 0 where
  idle_refused : (n : ℕ) → Idle (refused n)
  idle_nothing : (n : ℕ) → Idle (nothing n)
  idle_done : Idle done
  idle_before : (n : ℕ) → Idle (before n)
  idle_time : (n : ℕ) → Idle (time n)
  idle_first : (t : Ticket) (address callback : ℕ) (wanted : Bool) → Idle (first t address callback wanted)
  idle_empty : Idle empty

-- the board when an active request ends
abbrev pub ended_from : Active → End → Board → Board
ended_from a e b = ended_active a.request e (with_active (without ticket_of_active (ticket_of_active a) b.active) b)

-- the board when every active request ends
abbrev pub reset_from : Board → Board
reset_from b = all_ended (by_ticket ticket_of_active b.active) (with_active [] b)

pub data Move (b : Board) (c : Call) : Answer → Board → Type 0 where
  stays : (a : Answer) → Idle a → Move b c a b
  joins : (q : Request) (front : Bool) → Joins b q → Move b c (taken q.ticket) (joined q front b)
  goes : (u : Unit) (q : Request) (more : List Request) (n : ℕ) → Goes b u → b.waiting u ≡ q ∷ more → Move b c (sent q.ticket u q.cdb n) (sent_from u q more b)
  ends : (a : Active) (e : End) → find ticket_of_active (ticket_of_active a) b.active ≡ Some a → (data_length a.request ≤ 0xFFFFFF → InRange e.residual) → Move b c done (ended_from a e b)
  aborts : (q : Request) → q.unit.0 < units → find (λ r. r.ticket) q.ticket (b.waiting q.unit) ≡ Some q → Move b c done (ended_waiting q b)
  marks : (f : Active → Active) → ((a : Active) → (f a).request ≡ a.request) → ((a : Active) → (f a).start ≡ a.start) → (now : ℕ) → (b.clock < 2 ^ 32 → now < 2 ^ 32) → (a : Answer) → Idle a → Move b c a (with_active (map f b.active) (with_clock now b))
  freezes : (u : Unit) → Move b c (before (freeze_number (b.freezes u))) (with_freeze u (one_freeze (b.freezes u)) b)
  releases : (u : Unit) → c ≡ release u → Move b c (before (freeze_number (b.freezes u))) (with_freeze u (one_release (b.freezes u)) b)
  resets : Move b c done (reset_from b)
  hands_back : (x : Finished) (more : List Finished) → b.finished ≡ x ∷ more → Move b c (handed x.request.ticket x.told) (with_finished more b)

abbrev pub Moved : Board → Call → Stepped → Type 0
Moved b c s = Move b c s.answer s.board

-- ---- taking in

-- a row that was passed over
passed : (test : Bool) (n : ℕ) (rows : List (Row Verdict)) → first_that_applies ((test ⇒ refuse n) ∷ rows) accept ≡ accept → (test ≡ false) × (first_that_applies rows accept ≡ accept)
unfolding first_that_applies
passed true n rows e = let z : ◌≡◌ {A = ℕ} 0 1 = cc in absurd (omega arith)
passed false n rows e = (refl, e)

pub accepted_joins : (b : Board) (s : List ℕ) → verdict b s ≡ accept → Joins b (request (next_ticket b) (fields s))
unfolding verdict checks_of_block checks_of_board request
accepted_joins b s e =
    let p5 = passed _ _ _ (passed _ _ _ (passed _ _ _ (passed _ _ _ (passed _ _ _ e).1).1).1).1 in
    let p8 = passed _ _ _ (passed _ _ _ (passed _ _ _ p5.1).1).1 in
    let p9 = passed _ _ _ p8.1 in
    let p10 = passed _ _ _ p9.1 in
    let p11 = passed _ _ _ p10.1 in
    let far = neither (6 <? (fields s).target) (7 <? (fields s).lun) p5.0 in
    let target = not_below {m = 6} {n = (fields s).target} far.0 in
    let lun = not_below {m = 7} {n = (fields s).lun} far.1 in record {
      ticket = refl;
      unit = omega arith;
      length_small = not_below p8.0;
      address_free = p9.0;
      ticket_left = not_at_most p10.0;
      room = not_at_most p11.0;
    }

-- a block that passes them is a whole one
pub accepted_whole : (b : Board) (s : List ℕ) → verdict b s ≡ accept → whole_block ≤ length s
unfolding verdict checks_of_block checks_of_board
accepted_whole b s e =
    let p3 = passed _ _ _ (passed _ _ _ (passed _ _ _ e).1).1 in
    let within = neither ((fields s).length_field <? whole_block) (length s <? (fields s).length_field) p3.0 in
    let low = not_below {m = (fields s).length_field} {n = whole_block} within.0 in
    let high = not_below {m = length s} {n = (fields s).length_field} within.1 in
    omega arith

move_judged : (b : Board) (s : List ℕ) (v : Verdict) → verdict b s ≡ v → Moved b (take_in s) (judged b s v)
unfolding judged request
move_judged b s (refuse n) e = stays (refused n) (idle_refused n)
move_judged b s accept e = joins (request (next_ticket b) (fields s)) (fields s).sim_queue_priority (accepted_joins b s e)

-- ---- sending

-- what is found is a unit, and an eligible one
abbrev pub FoundAble : (Unit → Bool) → Option Found → Type 0
FoundAble able (Some x) = (x.unit.0 < units) × (able x.unit ≡ true)
FoundAble able None = Prim.Unit {0}

pub found_able : (able : Unit → Bool) (mark : Unit) (left n : ℕ) → FoundAble able (rotation able mark left n)
unfolding rotation
found_able able mark zero n = tt
found_able able mark (suc left) n =
    if_ind (FoundAble able) (able (after mark n)) _ (rotation able mark left (suc n))
    (λ e. (mod-lt (mark.0 + n) (lit< tt), e)) (λ e. found_able able mark left (suc n))

move_first : (b : Board) (u : Unit) (n : ℕ) (l : List Request) → b.waiting u ≡ l → Goes b u → Moved b send (sent_first b u n l)
unfolding sent_first
move_first b u n [] e g = stays (nothing n) (idle_nothing n)
move_first b u n (q ∷ more) e g = goes u q more n g e

move_by : (b : Board) (r : Option Found) → FoundAble (eligible b) r → length b.active < most_active → Moved b send (sent_by b r)
unfolding sent_by
move_by b None k h = stays (nothing units) (idle_nothing units)
move_by b (Some x) k h = move_first b x.unit x.looked (b.waiting x.unit) refl (record { unit = k.0; able = k.1; fewer = h })

move_sending : (b : Board) → Moved b send (sending b)
unfolding sending
move_sending b =
    if_ind (Moved b send) (most_active ≤? length b.active) (says b (nothing 0)) (sent_by b (rotation (eligible b) b.mark units 1))
    (λ e. stays (nothing 0) (idle_nothing 0))
    (λ e. move_by b _ (found_able (eligible b) b.mark units 1) (not_at_most e))

-- ---- an event

-- the residual of an end is in range, for a data length that is
abbrev Exact : Request → Result End Implausible → Type 0
Exact q (Err why) = Prim.Unit {0}
Exact q (Ok e) = data_length q ≤ 0xFFFFFF → InRange e.residual

in_range_or : (c : Bool) (m n : ℕ) → suc m ≤ 2147483647 → n ≤ 0xFFFFFF → InRange (cond c (negsuc m) (pos n))
in_range_or true m n h k = h
in_range_or false m n h k = k

difference_in_range : (m n : ℕ) → m ≤ 0xFFFFFF → n ≤ 0x7FFFFFFF → InRange (pos m -ℤ pos n)
difference_in_range m zero h k = omega arith
difference_in_range m (suc n) h k = in_range_or (ltb m (suc n)) (suc n - suc m) (m - suc n) (omega arith) (omega arith)

exact_by : (q : Request) (e : Event) (moved : ℕ) (x : Base) → moved ≤ 0x7FFFFFFF → Exact q (ending_by q e moved x)
unfolding ending_by end_by_event
exact_by q e moved (base n) h = λ k. difference_in_range (data_length q) moved k h
exact_by q e moved refusal_102 h = tt

exact : (a : Active) (e : Event) (moved : ℕ) → Exact a.request (ending a e moved)
unfolding ending implausible
exact a e moved =
    if_ind (Exact a.request) (implausible a.request e moved) (Err (record {})) (ending_by a.request e moved (base_status a e moved))
    (λ r. tt)
    (λ r. exact_by a.request e moved (base_status a e moved) (not_below (neither (0x7FFFFFFF <? moved) (sense_looked_at a.request e && sense_length a.request <? sense_bytes e) r).0))

module _ (b : Board) (c : Call) where
  move_reported_by : (a : Active) (x : Result End Implausible) → find ticket_of_active (ticket_of_active a) b.active ≡ Some a → Exact a.request x → Moved b c (reported_by b a.request x)
  unfolding reported_by
  move_reported_by a (Err why) k r = stays (refused 102) (idle_refused 102)
  move_reported_by a (Ok e) k r = ends a e k r

  move_reported : (t : Ticket) (e : Event) (moved : ℕ) (o : Option Active) → find ticket_of_active t b.active ≡ o → Moved b c (reported b e moved o)
  unfolding reported
  move_reported t e moved None k = stays (refused 101) (idle_refused 101)
  move_reported t e moved (Some a) k =
      move_reported_by a (ending a e moved)
      (subst (λ s. find ticket_of_active s b.active ≡ Some a) (sym (find_ticket ticket_of_active t b.active a k)) k)
      (exact a e moved)

  -- ---- abort

  move_asked : (t : Ticket) (o : Option Active) → Moved b c (asked b t o)
  unfolding asked
  move_asked t None = stays (refused 0x03) (idle_refused 0x03)
  move_asked t (Some a) = marks (ask t) (λ x. refl) (λ x. refl) b.clock (λ h. h) done idle_done

  move_aborted : (t : Ticket) (o : Option Request) → find (λ q. q.ticket) t (all_waiting b) ≡ o → Home b → Moved b c (aborted b t o)
  unfolding aborted
  move_aborted t None k h = move_asked t (find ticket_of_active t b.active)
  move_aborted t (Some q) k h =
      let w = find_of_units (λ r. r.ticket) t units b.waiting q k in
      let u : q.unit ≡ w.0 = find_each (λ r. r.ticket) (λ r. r.unit ≡ w.0) t (b.waiting w.0) q (h w.0) w.2 in
      let s : q.ticket ≡ t = find_ticket (λ r. r.ticket) t (b.waiting w.0) q w.2 in
      aborts q (rw u w.1) (subst₂ (λ x v. find (λ r. r.ticket) x (b.waiting v) ≡ Some q) (sym s) (sym u) w.2)

  -- ---- the other calls

  move_freezing : (change : Freeze → Freeze) (u : Unit)
      → Move b c (before (freeze_number (b.freezes u))) (with_freeze u (change (b.freezes u)) b)
      → Moved b c (freezing change b u)
  unfolding freezing
  move_freezing change u m =
      if_ind (Moved b c) (u.0 <? units) (says (with_freeze u (change (b.freezes u)) b) (before (freeze_number (b.freezes u)))) (says b (refused 103))
      (λ e. m)
      (λ e. stays (refused 103) (idle_refused 103))

  move_looked : (l : List Finished) → Moved b c (first_of b l)
  unfolding first_of
  move_looked [] = stays empty idle_empty
  move_looked (x ∷ more) = stays _ (idle_first _ _ _ _)

  move_handed_back : (s : List ℕ) (l : List Finished) → b.finished ≡ l → Moved b c (first_to b s l)
  unfolding first_to
  move_handed_back s [] e = stays (refused 104) (idle_refused 104)
  move_handed_back s (x ∷ more) e =
      if_ind (Moved b c) (not_its_block s x) record { board = b; answer = refused 105; lent = s } _
      (λ r. stays (refused 105) (idle_refused 105))
      (λ r. hands_back x more e)

-- ---- all of them

pub moves : (b : Board) (c : Call) → Home b → Moved b c (step b c)
unfolding step taking_in reporting aborting ticking resetting looking handing_back
moves b (take_in s) h = move_judged b s (verdict b s) refl
moves b send h = move_sending b
moves b (event t e moved) h = move_reported b (event t e moved) t e moved (find ticket_of_active t b.active) refl
moves b (abort t) h = move_aborted b (abort t) t (find (λ q. q.ticket) t (all_waiting b)) refl h
moves b (freeze u) h = move_freezing b (freeze u) one_freeze u (freezes u)
moves b (release u) h = move_freezing b (release u) one_release u (releases u refl)
moves b tick h = marks (time_passed (suc b.clock % 2 ^ 32)) (λ x. refl) (λ x. refl) (suc b.clock % 2 ^ 32) (λ k. mod-lt (suc b.clock) (lit< tt)) (time _) (idle_time _)
moves b reset h = resets
moves b look h = move_looked b look b.finished
moves b (hand_back s) h = move_handed_back b (hand_back s) s b.finished refl
