-- Between a unit's freeze and its release nothing is sent for it. Assumes nothing.
use Rattle.std.specs.Prelude.{Ok, Some}
use mathlib.Core.Path.{◌≡◌, refl, sym, ◌∙◌, ap, subst}
use mathlib.Core.Logic.{◌≢◌}
use mathlib.Core.Bool.{Bool, true, false, not, ◌||◌, ◌&&◌}
use mathlib.Core.List.{List, [], ◌∷◌}
use Prim.Native.Nat.{ℕ}
use native.Mathlib.Omega.{arith}
use Rattle.board.specs.Types.{Ticket, Unit, Request, Active, Event, End}
use Rattle.board.specs.Plain.{◌=?◌, ◌<?◌, any, Each}
use Rattle.board.specs.Board.{same_unit, units, find, by_ticket, ticket_of_active, Freeze, is_frozen, one_freeze, one_release, freeze_number, Board, fresh, frozen, with_active, with_freeze}
use Rattle.board.specs.Answers.{Answer, refused, taken, sent, nothing, done, before, time, first, empty, handed, says}
use Rattle.board.specs.Sending.{waits, busy, eligible}
use Rattle.board.specs.TakingIn.{joined}
use Rattle.board.specs.Ending.{ending, end_unmoved, freeze_after, ended_active, reported_by, reported, reporting}
use Rattle.board.specs.Calls.{ended_waiting, freezing, all_ended, resetting, Call, event, release, step, run}
use Rattle.board.specs.Demand3.{Freezes, by_call, by_bad_end, by_reset, NotARelease, NotSentFor}
use Rattle.board.proofs.Choose.{if_ind, true≢false, both, not-true, same, not_below, one_unit, at_same, at_other}
use Rattle.board.proofs.Freezes.{one_freeze_frozen}
use Rattle.board.proofs.Moves.{Home, Idle, idle_refused, idle_nothing, idle_done, idle_before, idle_time, idle_first, idle_empty, Move, stays, joins, goes, ends, aborts, marks, freezes, releases, resets, hands_back, moves}
use Rattle.board.proofs.Kept.{kept}
use Rattle.board.proofs.Weigh.{any_by_ticket}
use Rattle.board.proofs.Places.{kept_step, accounted}

-- ---- an end never unfreezes a unit, and a bad one freezes its own

freeze_after_frozen : (n : ℕ) (x : Freeze) → is_frozen x ≡ true → is_frozen (freeze_after n x) ≡ true
unfolding freeze_after
freeze_after_frozen n x h = if_ind (λ y. is_frozen y ≡ true) (n =? 0x01) x (one_freeze x) (λ e. h) (λ e. one_freeze_frozen x)

bad_freezes : (n : ℕ) (x : Freeze) → n ≢ 0x01 → is_frozen (freeze_after n x) ≡ true
unfolding freeze_after
bad_freezes n x k = if_ind (λ y. is_frozen y ≡ true) (n =? 0x01) x (one_freeze x) (λ e. absurd (k (same e))) (λ e. one_freeze_frozen x)

still_ended : (q : Request) (e : End) (b : Board) (u : Unit) → frozen b u ≡ true → frozen (ended_active q e b) u ≡ true
unfolding ended_active
still_ended q e b u h =
    if_ind (λ x. is_frozen x ≡ true) (same_unit u q.unit) (freeze_after e.base (b.freezes q.unit)) (b.freezes u)
    (λ j. freeze_after_frozen e.base (b.freezes q.unit) (ap (frozen b) (sym (one_unit (same j))) ∙ h))
    (λ j. h)

now_frozen : (q : Request) (e : End) (b : Board) → e.base ≢ 0x01 → frozen (ended_active q e b) q.unit ≡ true
unfolding ended_active
now_frozen q e b k =
    rw (at_same q.unit (freeze_after e.base (b.freezes q.unit)) b.freezes) (bad_freezes e.base (b.freezes q.unit) k)

still_all_ended : (l : List Active) (b : Board) (u : Unit) → frozen b u ≡ true → frozen (all_ended l b) u ≡ true
unfolding all_ended
still_all_ended [] b u h = h
still_all_ended (a ∷ more) b u h =
    let e = end_unmoved 0x0E a.request in
    still_all_ended more (ended_active a.request e b) u (still_ended a.request e b u h)

-- each unit that has one of the ended requests is frozen
all_frozen : (l : List Active) (b : Board) (u : Unit) → busy u l ≡ true → frozen (all_ended l b) u ≡ true
unfolding all_ended busy any end_unmoved
all_frozen [] b u e = true≢false (sym e)
all_frozen (a ∷ more) b u e =
    let x = end_unmoved 0x0E a.request in
    go (same_unit a.request.unit u) refl (all_frozen more (ended_active a.request x b) u) e
  where
    d : Board
    d = ended_active a.request (end_unmoved 0x0E a.request) b

    go : (c : Bool) → same_unit a.request.unit u ≡ c → (busy u more ≡ true → frozen (all_ended more d) u ≡ true) → (c || busy u more) ≡ true → frozen (all_ended more d) u ≡ true
    go true s rest k =
        still_all_ended more d u (subst (λ w. frozen d w ≡ true) (one_unit (same s)) (now_frozen a.request (end_unmoved 0x0E a.request) b (λ z. omega (arith, z))))
    go false s rest k = rest k

-- ---- every move leaves a frozen unit frozen, but for its release

still : {b : Board} {c : Call} {a : Answer} {d : Board} → Move b c a d → (u : Unit) → NotARelease u c → frozen b u ≡ true → frozen d u ≡ true
unfolding joined ended_waiting
still (stays a i) u k h = h
still (joins q front j) u k h = h
still (goes v q more n g e) u k h = h
still {b} (ends a e f r) u k h = still_ended a.request e _ u h
still (aborts q v f) u k h = h
still (marks f e s now l a i) u k h = h
still {b} (freezes v) u k h =
    if_ind (λ x. is_frozen x ≡ true) (same_unit u v) (one_freeze (b.freezes v)) (b.freezes u) (λ j. one_freeze_frozen (b.freezes v)) (λ j. h)
still {b} (releases v e) u k h = rw (at_other v u (one_release (b.freezes v)) b.freezes (λ s. k (e ∙ ap release (sym s)))) h
still {b} resets u k h = still_all_ended (by_ticket ticket_of_active b.active) (with_active [] b) u h
still (hands_back x more e) u k h = h

-- ---- no move sends for a frozen unit

pub not_frozen : (b : Board) (u : Unit) → eligible b u ≡ true → frozen b u ≡ false
unfolding eligible
not_frozen b u e =
    let p = both (waits (b.waiting u) && not (frozen b u)) (not (busy u b.active)) e in
    not-true (frozen b u) (both (waits (b.waiting u)) (not (frozen b u)) p.0).1

abbrev is_sent : Answer → Bool
is_sent (sent t u cdb n) = true
is_sent (refused n) = false
is_sent (taken t) = false
is_sent (nothing n) = false
is_sent done = false
is_sent (before n) = false
is_sent (time n) = false
is_sent (first t address callback wanted) = false
is_sent empty = false
is_sent (handed t x) = false

not_sent : (u : Unit) (a : Answer) → is_sent a ≡ false → NotSentFor u a
not_sent u a e t cdb n s = true≢false (sym (ap is_sent s) ∙ e)

idle_not_sent : {a : Answer} → Idle a → is_sent a ≡ false
idle_not_sent (idle_refused n) = refl
idle_not_sent (idle_nothing n) = refl
idle_not_sent idle_done = refl
idle_not_sent (idle_before n) = refl
idle_not_sent (idle_time n) = refl
idle_not_sent (idle_first t address callback wanted) = refl
idle_not_sent idle_empty = refl

silent : {b : Board} {c : Call} {a : Answer} {d : Board} → Move b c a d → (u : Unit) → frozen b u ≡ true → NotSentFor u a
silent (stays a i) u h = not_sent u a (idle_not_sent i)
silent (joins q front j) u h = not_sent u _ refl
silent {b} (goes v q more n g e) u h =
    λ t cdb k s.
    let p : v ≡ u = cc in
    let f : frozen b v ≡ false = not_frozen b v g.able in
    true≢false (sym h ∙ (ap (frozen b) (sym p) ∙ f))
silent (ends a e f r) u h = not_sent u _ refl
silent (aborts q v f) u h = not_sent u _ refl
silent (marks f e s now l a i) u h = not_sent u a (idle_not_sent i)
silent (freezes v) u h = not_sent u _ refl
silent (releases v e) u h = not_sent u _ refl
silent resets u h = not_sent u _ refl
silent (hands_back x more e) u h = not_sent u _ refl

-- ---- after any calls

quiet_run : (calls : List Call) (b : Board) (u : Unit) → Home b → frozen b u ≡ true → Each (NotARelease u) calls → Each (NotSentFor u) (run b calls).answers
unfolding run Each
quiet_run [] b u m h k = tt
quiet_run (c ∷ more) b u m h k =
    let v = moves b c m in
    (silent v u h, quiet_run more (step b c).board u (kept v m).home (still v u k.0 h) k.1)

-- ---- what freezes a unit

frozen_by_event : (b : Board) (t : Ticket) (a : Active) (e : Event) (moved : ℕ) (x : End)
    → find ticket_of_active t b.active ≡ Some a → ending a e moved ≡ Ok x → x.base ≢ 0x01 → frozen (step b (event t e moved)).board a.request.unit ≡ true
unfolding step reporting reported reported_by
frozen_by_event b t a e moved x k m n = rw (k, reported, m, reported_by) (now_frozen a.request x _ n)

frozen_after : (b : Board) (u : Unit) (c : Call) → Freezes b u c → frozen (step b c).board u ≡ true
unfolding step freezing resetting busy
frozen_after b u c (by_call h) =
    if_ind (λ s. frozen s.board u ≡ true) (u.0 <? units) (says (with_freeze u (one_freeze (b.freezes u)) b) (before (freeze_number (b.freezes u)))) (says b (refused 103))
    (λ e. rw (at_same u (one_freeze (b.freezes u)) b.freezes) (one_freeze_frozen (b.freezes u)))
    (λ e. let p = not_below {m = u.0} {n = units} e in absurd (omega arith))
frozen_after b u c (by_bad_end t a e moved x k v m n) = subst (λ w. frozen (step b (event t e moved)).board w ≡ true) v (frozen_by_event b t a e moved x k m n)
frozen_after b u c (by_reset k) =
    all_frozen (by_ticket ticket_of_active b.active) (with_active [] b) u
    (any_by_ticket ticket_of_active (λ a. same_unit a.request.unit u) b.active ∙ k)

-- ---- all of it

pub quiet : (earlier : List Call) (u : Unit) (c : Call) (later : List Call)
    → Freezes (run fresh earlier).board u c
    → Each (NotARelease u) later
    → Each (NotSentFor u) (run (step (run fresh earlier).board c).board later).answers
quiet earlier u c later f k =
    let b = (run fresh earlier).board in
    let h = (accounted earlier).own_unit in
    quiet_run later (step b c).board u (kept_step b c h).home (frozen_after b u c f) k
