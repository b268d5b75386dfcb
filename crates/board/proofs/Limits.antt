-- The limits hold of every board that calls make of a fresh one. Assumes nothing.
use Rattle.std.specs.Prelude.{if◌then◌else◌}
use mathlib.Core.Path.{◌≡◌, refl, sym, ◌∙◌, ap, subst}
use mathlib.Core.Bool.{Bool, true, false, not, ◌||◌, ◌&&◌}
use mathlib.Core.List.{List, [], ◌∷◌, ◌++◌}
use Prim.Native.Nat.{ℕ, suc, ◌+◌, ◌^◌, ◌≤◌, ◌<◌}
use native.Mathlib.Nat.{le_refl}
use native.Mathlib.Omega.{arith}
use lib.Dec.{lit<}
use lib.ListN.{length}
use Rattle.board.specs.Types.{Ticket, Unit, Request, Active, Finished, End}
use Rattle.board.specs.Plain.{◌=?◌, ◌<?◌, Each}
use Rattle.board.specs.Board.{same_unit, same_ticket, at, units, by_ticket, ticket_of_active, data_length, places, most_active, last_ticket, Board, fresh, frozen, live, with_active}
use Rattle.board.specs.Answers.{Answer}
use Rattle.board.specs.TakingIn.{address_held, joined}
use Rattle.board.specs.Sending.{waits, busy, eligible}
use Rattle.board.specs.Ending.{end_unmoved, told, ended_active}
use Rattle.board.specs.Calls.{ended_waiting, all_ended, Call, step, run}
use Rattle.board.specs.Limits.{Fits, InRange, Limits, Sound, Soundness}
use Rattle.board.proofs.Choose.{true≢false, refute, neither, both, not-true, same, not_below, unless_below, one_unit, at_other}
use Rattle.board.proofs.Weigh.{weigh, one, weigh_append, weigh_map, weigh_same, weigh_at_most, weigh_length, weigh_count, weigh_none, weigh_each, weigh_at, each_other, each_append, each_map, find_each, weigh_without, each_without, each_by_ticket}
use Rattle.board.proofs.Moves.{Home, Joins, Goes, Move, stays, joins, goes, ends, aborts, marks, freezes, releases, resets, hands_back, moves}
use Rattle.board.proofs.Kept.{mass, live_mass, Came, nobody_came, one_came, kept, all_ended_keeps}
use Rattle.board.proofs.Places.{fresh_mass, fresh_home}

-- ---- what a move does to the active requests

-- no request started, or the first one that waited on an eligible unit
data Started (b : Board) : List Request → Type 0 where
  nobody_started : Started b []
  one_started : (q : Request) → Goes b q.unit → Started b (q ∷ [])

record ActiveKept (b d : Board) : Type 0 where
  started : List Request
  starter : Started b started
  most : (g : Request → ℕ) → weigh (λ a. g a.request) d.active ≤ weigh (λ a. g a.request) b.active + weigh g started

-- none started, and none is new
none_new : (b d : Board) → ((g : Request → ℕ) → weigh (λ a. g a.request) d.active ≤ weigh (λ a. g a.request) b.active) → ActiveKept b d
none_new b d f = record { started = []; starter = nobody_started; most = λ g. let p = f g in omega arith }

active_kept : {b : Board} {c : Call} {a : Answer} {d : Board} → Move b c a d → Home b → ActiveKept b d
unfolding joined ended_active ended_waiting Each
active_kept {b} (stays a i) h = none_new b b (λ g. le_refl _)
active_kept {b} (joins q front j) h = none_new b _ (λ g. le_refl _)
active_kept {b} (goes u q more n k e) h =
    let home : q.unit ≡ u = (rw e at (h u)).0 in record {
      started = q ∷ [];
      starter = one_started q (subst (Goes b) (sym home) k);
      most = λ g. let p = weigh_append (λ x. g x.request) b.active (record { request = q; start = b.clock; asked = false; overdue = false } ∷ []) in omega arith;
    }
active_kept {b} (ends a e k r) h = none_new b _ (λ g. let p = weigh_without ticket_of_active (λ x. g x.request) (ticket_of_active a) b.active a k in omega arith)
active_kept {b} (aborts q u k) h = none_new b _ (λ g. le_refl _)
active_kept {b} (marks f e s now k a i) h =
    none_new b _ (λ g.
    let p = weigh_map (λ x. g x.request) f b.active in
    let q = weigh_same (λ x. g (f x).request) (λ x. g x.request) (λ x. ap g (e x)) b.active in
    omega arith)
active_kept {b} (freezes u) h = none_new b _ (λ g. le_refl _)
active_kept {b} (releases u e) h = none_new b _ (λ g. le_refl _)
active_kept {b} resets h =
    let k = all_ended_keeps (by_ticket ticket_of_active b.active) (with_active [] b) in
    none_new b _ (λ g. rw k.active (omega arith))
active_kept {b} (hands_back x more e) h = none_new b _ (λ g. le_refl _)

-- ---- what a move does to the clock, the mark, and numbers that are no unit

record Rest (b : Board) : Type 0 where
  mark : b.mark.0 < units
  clock : b.clock < 2 ^ 32
  nowhere_else : (u : Unit) → units ≤ u.0 → b.waiting u ≡ []

-- a unit's order changed leaves the others
elsewhere : (b : Board) (v : Unit) (l : List Request) → v.0 < units → Rest b → (u : Unit) → units ≤ u.0 → at v l b.waiting u ≡ []
elsewhere b v l h r u k = at_other v u l b.waiting (λ e. let p : u.0 ≡ v.0 = ap (λ w. w.0) e in omega arith) ∙ r.nowhere_else u k

rest_kept : {b : Board} {c : Call} {a : Answer} {d : Board} → Move b c a d → Rest b → Rest d
unfolding joined ended_active ended_waiting
rest_kept (stays a i) r = r
rest_kept {b} (joins q front j) r = record { mark = r.mark; clock = r.clock; nowhere_else = elsewhere b q.unit _ (let p = j.unit in omega arith) r }
rest_kept {b} (goes u q more n k e) r = record { mark = k.unit; clock = r.clock; nowhere_else = elsewhere b u more k.unit r }
rest_kept (ends a e k x) r = record { mark = r.mark; clock = r.clock; nowhere_else = r.nowhere_else }
rest_kept {b} (aborts q u k) r = record { mark = r.mark; clock = r.clock; nowhere_else = elsewhere b q.unit _ u r }
rest_kept (marks f e s now k a i) r = record { mark = r.mark; clock = k r.clock; nowhere_else = r.nowhere_else }
rest_kept (freezes u) r = record { mark = r.mark; clock = r.clock; nowhere_else = r.nowhere_else }
rest_kept (releases u e) r = record { mark = r.mark; clock = r.clock; nowhere_else = r.nowhere_else }
rest_kept {b} resets r =
    let k = all_ended_keeps (by_ticket ticket_of_active b.active) (with_active [] b) in
    record { mark = rw k.mark r.mark; clock = rw k.clock r.clock; nowhere_else = λ u h. ap (λ w. w u) k.waiting ∙ r.nowhere_else u h }
rest_kept (hands_back x more e) r = record { mark = r.mark; clock = r.clock; nowhere_else = r.nowhere_else }

-- ---- what a move does to the starts and the residuals

abbrev Starts : Board → Type 0
Starts b = Each (λ a. a.start < 2 ^ 32) b.active

starts_kept : {b : Board} {c : Call} {a : Answer} {d : Board} → Move b c a d → b.clock < 2 ^ 32 → Starts b → Starts d
unfolding joined ended_active ended_waiting Each
starts_kept (stays a i) h s = s
starts_kept (joins q front j) h s = s
starts_kept {b} (goes u q more n k e) h s = each_append (λ a. a.start < 2 ^ 32) b.active _ s (h, tt)
starts_kept {b} (ends a e k r) h s = each_without ticket_of_active (λ a. a.start < 2 ^ 32) (ticket_of_active a) b.active s
starts_kept (aborts q u k) h s = s
starts_kept {b} (marks f e t now k a i) h s = each_map (λ a. a.start < 2 ^ 32) f (λ a. a.start < 2 ^ 32) (λ x y. rw (t x) y) b.active s
starts_kept (freezes u) h s = s
starts_kept (releases u e) h s = s
starts_kept {b} resets h s = rw (all_ended_keeps (by_ticket ticket_of_active b.active) (with_active [] b)).active tt
starts_kept (hands_back x more e) h s = s

abbrev ExactLine : List Finished → Type 0
ExactLine l = Each (λ x. InRange x.told.residual) l

abbrev Short : Request → Type 0
Short q = data_length q ≤ 0xFFFFFF

-- one more at the back of the line
exact_more : (l : List Finished) (q : Request) (e : End) (f : Bool) → ExactLine l → InRange e.residual → ExactLine (l ++ (record { request = q; told = told e f } ∷ []))
unfolding Each told
exact_more l q e f h k = each_append (λ x. InRange x.told.residual) l _ h (k, tt)

exact_all_ended : (l : List Active) (b : Board) → Each (λ a. Short a.request) l → ExactLine b.finished → ExactLine (all_ended l b).finished
unfolding all_ended ended_active Each end_unmoved
exact_all_ended [] b s h = h
exact_all_ended (a ∷ more) b s h =
    let x = end_unmoved 0x0E a.request in
    exact_all_ended more (ended_active a.request x b) s.1 (exact_more b.finished a.request x _ h s.0)

-- where the data lengths of what waits and is active are at most FFFFFFh
residuals_kept : {b : Board} {c : Call} {a : Answer} {d : Board} → Move b c a d → ((u : Unit) → u.0 < units → Each Short (b.waiting u)) → Each (λ a. Short a.request) b.active → ExactLine b.finished → ExactLine d.finished
unfolding joined ended_active ended_waiting end_unmoved Each
residuals_kept (stays a i) w s h = h
residuals_kept (joins q front j) w s h = h
residuals_kept (goes u q more n k e) w s h = h
residuals_kept {b} (ends a e k r) w s h = exact_more b.finished a.request e _ h (r (find_each ticket_of_active (λ x. Short x.request) (ticket_of_active a) b.active a s k))
residuals_kept {b} (aborts q u k) w s h = exact_more b.finished q (end_unmoved 0x02 q) _ h (find_each (λ r. r.ticket) Short q.ticket (b.waiting q.unit) q (w q.unit u) k)
residuals_kept (marks f e t now k a i) w s h = h
residuals_kept (freezes u) w s h = h
residuals_kept (releases u e) w s h = h
residuals_kept {b} resets w s h = exact_all_ended (by_ticket ticket_of_active b.active) (with_active [] b) (each_by_ticket ticket_of_active (λ a. Short a.request) b.active s) h
residuals_kept {b} (hands_back x more e) w s h = (rw e at h).1

-- ---- the limits in weights

-- a request that does not fit
abbrev misfit : Board → Request → Bool
misfit b q = q.ticket.0 <? 1 || b.given <? q.ticket.0 || 55 <? q.unit.0 || 0xFFFFFF <? q.length

abbrev at_address : ℕ → Request → Bool
at_address n q = q.address =? n

abbrev has_ticket : Ticket → Request → Bool
has_ticket t q = same_ticket q.ticket t

abbrev on_unit : Unit → Request → Bool
on_unit u q = same_unit q.unit u

record Limited (b : Board) : Type 0 where
  home : Home b
  rest : Rest b
  within : mass (λ q. 1) b ≤ places
  at_once : weigh {A = Active} (λ a. 1) b.active ≤ most_active
  one_per_unit : (u : Unit) → weigh (λ a. one (on_unit u) a.request) b.active ≤ 1
  given : b.given ≤ last_ticket
  addresses : (n : ℕ) → mass (one (at_address n)) b ≤ 1
  tickets : (t : Ticket) → mass (one (has_ticket t)) b ≤ 1
  fitting : mass (one (misfit b)) b ≡ 0
  starts : Starts b
  residuals : ExactLine b.finished

mass_at_most : (g h : Request → ℕ) → ((q : Request) → g q ≤ h q) → (b : Board) → mass g b ≤ mass h b
mass_at_most g h e b = omega (arith, live_mass g b, live_mass h b, weigh_at_most g h e (live b))

-- what fails a test weighs no more than what fails one that it implies
implied : (c e : Bool) → (e ≡ false → c ≡ false) → (if c then 1 else 0) ≤ (if e then 1 else 0)
implied true true k = le_refl 1
implied true false k = true≢false (k refl)
implied false true k = omega arith
implied false false k = le_refl 0

-- what a request that fits is known by
fits : (b : Board) (q : Request) → misfit b q ≡ false → Fits b q
fits b q e =
    let p = neither (q.ticket.0 <? 1 || b.given <? q.ticket.0 || 55 <? q.unit.0) (0xFFFFFF <? q.length) e in
    let r = neither (q.ticket.0 <? 1 || b.given <? q.ticket.0) (55 <? q.unit.0) p.0 in
    let s = neither (q.ticket.0 <? 1) (b.given <? q.ticket.0) r.0 in
    let u = not_below {m = 55} {n = q.unit.0} r.1 in
    record { ticket_from_1 = not_below s.0; ticket_given = not_below s.1; unit = omega arith; length = not_below p.1 }

no_misfit : (b : Board) (q : Request) → Fits b q → misfit b q ≡ false
no_misfit b q f =
    let u = f.unit in
    rw (unless_below f.ticket_from_1, unless_below f.ticket_given, unless_below {m = 55} {n = q.unit.0} (omega arith), unless_below f.length)

-- ---- each limit, when nobody or one request has come

module _ (b d : Board) (k : Limited b) where
  -- with the place that the check asked for
  within_kept : (l : List Request) → Came b l → (x : ℕ) → mass (λ q. 1) d + x ≡ mass (λ q. 1) b + weigh (λ q. 1) l → mass (λ q. 1) d ≤ places
  within_kept l nobody_came x e = let p = k.within in omega arith
  within_kept l (one_came q j) x e = let p = j.room in omega (arith, weigh_length (live b), live_mass (λ q. 1) b)

  given_kept : (l : List Request) → Came b l → d.given ≡ length l + b.given → d.given ≤ last_ticket
  given_kept l nobody_came e = let p = k.given in omega arith
  given_kept l (one_came q j) e = let p = j.ticket_left in omega arith

  given_grows : (l : List Request) → d.given ≡ length l + b.given → b.given ≤ d.given
  given_grows l e = omega arith

  -- no live request had the address
  address_new : (q : Request) → Joins b q → mass (one (at_address q.address)) b ≡ 0
  unfolding address_held
  address_new q j = sym (live_mass (one (at_address q.address)) b) ∙ weigh_none (at_address q.address) (live b) j.address_free

  addresses_kept : (l : List Request) → Came b l → (n x : ℕ) → mass (one (at_address n)) d + x ≡ mass (one (at_address n)) b + weigh (one (at_address n)) l → mass (one (at_address n)) d ≤ 1
  addresses_kept l nobody_came n x e = let p = k.addresses n in omega arith
  addresses_kept l (one_came q j) n x e = go (at_address n q) refl e
    where
      go : (c : Bool) → at_address n q ≡ c → mass (one (at_address n)) d + x ≡ mass (one (at_address n)) b + ((if c then 1 else 0) + 0) → mass (one (at_address n)) d ≤ 1
      go true s f = let z : mass (one (at_address n)) b ≡ 0 = subst (λ m. mass (one (at_address m)) b ≡ 0) (same s) (address_new q j) in omega arith
      go false s f = let p = k.addresses n in omega arith

  -- no live request had the ticket
  ticket_new : (t : Ticket) → b.given < t.0 → mass (one (has_ticket t)) b ≡ 0
  ticket_new t h =
      let p = mass_at_most (one (has_ticket t)) (one (misfit b)) (λ q. implied (has_ticket t q) (misfit b q)
      (λ e. refute (has_ticket t q) (λ s. let r : q.ticket.0 ≡ t.0 = same s in let f = (fits b q e).ticket_given in absurd (omega arith)))) b in
      let z = k.fitting in
      omega arith

  tickets_kept : (l : List Request) → Came b l → (t : Ticket) (x : ℕ) → mass (one (has_ticket t)) d + x ≡ mass (one (has_ticket t)) b + weigh (one (has_ticket t)) l → mass (one (has_ticket t)) d ≤ 1
  tickets_kept l nobody_came t x e = let p = k.tickets t in omega arith
  tickets_kept l (one_came q j) t x e = go (has_ticket t q) refl e
    where
      go : (c : Bool) → has_ticket t q ≡ c → mass (one (has_ticket t)) d + x ≡ mass (one (has_ticket t)) b + ((if c then 1 else 0) + 0) → mass (one (has_ticket t)) d ≤ 1
      go true s f =
          let n : q.ticket.0 ≡ suc b.given = ap (λ s. s.0) j.ticket in
          let m : q.ticket.0 ≡ t.0 = same s in
          let z = ticket_new t (omega arith) in
          omega arith
      go false s f = let p = k.tickets t in omega arith

  -- what fitted fits still, and the newcomer fits
  newcomer_fits : (l : List Request) → Came b l → d.given ≡ length l + b.given → weigh (one (misfit d)) l ≡ 0
  newcomer_fits l nobody_came e = refl
  newcomer_fits l (one_came q j) e =
      let n : q.ticket.0 ≡ suc b.given = ap (λ s. s.0) j.ticket in
      rw (no_misfit d q (record { ticket_from_1 = omega arith; ticket_given = omega arith; unit = j.unit; length = j.length_small }))

  fitting_kept : (x y : ℕ) → b.given ≤ d.given → mass (one (misfit d)) d + x ≡ mass (one (misfit d)) b + y → y ≡ 0 → mass (one (misfit d)) d ≡ 0
  fitting_kept x y g e n =
      let p = mass_at_most (one (misfit d)) (one (misfit b)) (λ q. implied (misfit d q) (misfit b q)
      (λ e. let f = fits b q e in let t = f.ticket_given in no_misfit d q (record { ticket_from_1 = f.ticket_from_1; ticket_given = omega arith; unit = f.unit; length = f.length }))) b in
      let z = k.fitting in
      omega arith

  -- ---- and each limit on the active ones, when nobody or one has started

  at_once_kept : (l : List Request) → Started b l → weigh {A = Active} (λ a. 1) d.active ≤ weigh {A = Active} (λ a. 1) b.active + weigh (λ q. 1) l → weigh {A = Active} (λ a. 1) d.active ≤ most_active
  at_once_kept l nobody_started e = let p = k.at_once in omega arith
  at_once_kept l (one_started q g) e = let p = g.fewer in omega (arith, weigh_length b.active)

  -- an eligible unit has none active
  none_active : (u : Unit) → eligible b u ≡ true → weigh (λ a. one (on_unit u) a.request) b.active ≡ 0
  unfolding eligible busy
  none_active u e =
      weigh_none (λ a. on_unit u a.request) b.active
      (not-true (busy u b.active) (both (waits (b.waiting u) && not (frozen b u)) (not (busy u b.active)) e).1)

  one_per_unit_kept : (l : List Request) → Started b l → (u : Unit)
      → weigh (λ a. one (on_unit u) a.request) d.active ≤ weigh (λ a. one (on_unit u) a.request) b.active + weigh (one (on_unit u)) l
      → weigh (λ a. one (on_unit u) a.request) d.active ≤ 1
  one_per_unit_kept l nobody_started u e = let p = k.one_per_unit u in omega arith
  one_per_unit_kept l (one_started q g) u e = go (on_unit u q) refl e
    where
      go : (c : Bool) → on_unit u q ≡ c
          → weigh (λ a. one (on_unit u) a.request) d.active ≤ weigh (λ a. one (on_unit u) a.request) b.active + ((if c then 1 else 0) + 0)
          → weigh (λ a. one (on_unit u) a.request) d.active ≤ 1
      go true s f = let z = none_active u (subst (λ v. eligible b v ≡ true) (one_unit (same s)) g.able) in omega arith
      go false s f = let p = k.one_per_unit u in omega arith

-- what waits and what is active fits
fits_waiting : (b : Board) → Limited b → (u : Unit) → u.0 < units → Each Short (b.waiting u)
fits_waiting b l u h =
    each_other Short (misfit b) (λ q e. (fits b q e).length) (b.waiting u)
    (let p = weigh_at (one (misfit b)) units u [] b.waiting h in let z = l.fitting in omega arith)

fits_active : (b : Board) → Limited b → Each (λ a. Short a.request) b.active
fits_active b l = each_other (λ a. Short a.request) (λ a. misfit b a.request) (λ a e. (fits b a.request e).length) b.active (let z = l.fitting in omega arith)

limited_kept : {b : Board} {c : Call} {a : Answer} {d : Board} → Move b c a d → Limited b → Limited d
limited_kept {b} {d} m l =
    let k = kept m l.home in
    let v = active_kept m l.home in record {
      home = k.home;
      rest = rest_kept m l.rest;
      within = within_kept b d l k.came k.newcomer _ (k.balance (λ q. 1));
      at_once = at_once_kept b d l v.started v.starter (v.most (λ q. 1));
      one_per_unit = λ u. one_per_unit_kept b d l v.started v.starter u (v.most (one (on_unit u)));
      given = given_kept b d l k.came k.newcomer k.given;
      addresses = λ n. addresses_kept b d l k.came k.newcomer n _ (k.balance (one (at_address n)));
      tickets = λ t. tickets_kept b d l k.came k.newcomer t _ (k.balance (one (has_ticket t)));
      fitting = fitting_kept b d l _ _ (given_grows b d l k.came k.given) (k.balance (one (misfit d))) (newcomer_fits b d l k.came k.newcomer k.given);
      starts = starts_kept m l.rest.clock l.starts;
      residuals = residuals_kept m (fits_waiting b l) (fits_active b l) l.residuals;
    }

-- ---- after any calls

limited_run : (calls : List Call) (b : Board) → Limited b → Limited (run b calls).board
unfolding run
limited_run [] b l = l
limited_run (c ∷ more) b l = limited_run more (step b c).board (limited_kept (moves b c l.home) l)

fresh_limited : Limited fresh
unfolding fresh Each
fresh_limited = record {
  home = fresh_home;
  rest = record { mark = lit< tt; clock = lit< tt; nowhere_else = λ u h. refl };
  within = omega (arith, fresh_mass (λ q. 1));
  at_once = omega arith;
  one_per_unit = λ u. omega arith;
  given = omega arith;
  addresses = λ n. omega (arith, fresh_mass (one (at_address n)));
  tickets = λ t. omega (arith, fresh_mass (one (has_ticket t)));
  fitting = fresh_mass (one (misfit fresh));
  starts = tt;
  residuals = tt;
}

limits_of : (b : Board) → Limited b → Limits b
limits_of b l = record {
  within = omega (arith, l.within, weigh_length (live b), live_mass (λ q. 1) b);
  at_once = omega (arith, l.at_once, weigh_length b.active);
  one_per_unit = λ u. rw weigh_count (l.one_per_unit u);
  mark = l.rest.mark;
  clock = l.rest.clock;
  given = l.given;
  addresses = λ n. rw weigh_count (omega (arith, live_mass (one (at_address n)) b, l.addresses n));
  tickets = λ t. rw weigh_count (omega (arith, live_mass (one (has_ticket t)) b, l.tickets t));
  each = each_other (Fits b) (misfit b) (fits b) (live b) (live_mass (one (misfit b)) b ∙ l.fitting);
  starts = l.starts;
  residuals = l.residuals;
  nowhere_else = l.rest.nowhere_else;
}

limited_of : (b : Board) → Sound b → Limited b
limited_of b s =
    let l = s.limits in record {
      home = s.own_unit;
      rest = record { mark = l.mark; clock = l.clock; nowhere_else = l.nowhere_else };
      within = omega (arith, l.within, weigh_length (live b), live_mass (λ q. 1) b);
      at_once = omega (arith, l.at_once, weigh_length b.active);
      one_per_unit = λ u. rw weigh_count at (l.one_per_unit u);
      given = l.given;
      addresses = λ n. omega (arith, live_mass (one (at_address n)) b, weigh_count (at_address n) (live b), l.addresses n);
      tickets = λ t. omega (arith, live_mass (one (has_ticket t)) b, weigh_count (has_ticket t) (live b), l.tickets t);
      fitting = sym (live_mass (one (misfit b)) b) ∙ weigh_each (Fits b) (misfit b) (no_misfit b) (live b) l.each;
      starts = l.starts;
      residuals = l.residuals;
    }

sound_of : (b : Board) → Limited b → Sound b
sound_of b l = record { limits = limits_of b l; own_unit = l.home }

pub soundness : Soundness
soundness = record {
  fresh_sound = sound_of fresh fresh_limited;
  step_sound = λ b c s. let l = limited_of b s in sound_of (step b c).board (limited_kept (moves b c l.home) l);
  after_any_calls = λ calls. limits_of (run fresh calls).board (limited_run calls fresh fresh_limited);
}
