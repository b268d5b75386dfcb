-- Freezing or releasing alters no other unit's records: by call, by an end, by a bus reset. Assumes nothing.
use Rattle.std.specs.Prelude.{Result, Ok, Err, Some}
use mathlib.Core.Path.{◌≡◌, refl, sym, ◌∙◌, ap, subst}
use mathlib.Core.Logic.{◌≢◌}
use mathlib.Core.Bool.{false}
use mathlib.Core.List.{List, [], ◌∷◌}
use Prim.Native.Nat.{ℕ}
use Rattle.board.specs.Types.{Ticket, Unit, Active, Event, End, Implausible}
use Rattle.board.specs.Plain.{◌<?◌, any}
use Rattle.board.specs.Board.{same_unit, same_ticket, units, find, without, by_ticket, ticket_of_active, Freeze, one_freeze, one_release, freeze_number, Board, with_active, with_freeze}
use Rattle.board.specs.Answers.{refused, before, says}
use Rattle.board.specs.Sending.{busy}
use Rattle.board.specs.Ending.{ending, end_unmoved, freeze_after, ended_active, reported_by, reported, reporting}
use Rattle.board.specs.Calls.{freezing, all_ended, resetting, event, freeze, release, reset, step}
use Rattle.board.specs.Demand3.{active_on, SameRecords, SameButFreeze}
use Rattle.board.proofs.Choose.{if_ind, both_ifs, none≢some, refute, neither, same, differ, one_unit, at_other}
use Rattle.board.proofs.Weigh.{find_ticket, any_by_ticket}
use Rattle.board.proofs.Kept.{all_ended_keeps}

-- ---- by call

alone : (change : Freeze → Freeze) (b : Board) (u : Unit) → SameButFreeze u b (freezing change b u).board
unfolding freezing
alone change b u =
    if_ind (λ s. SameButFreeze u b s.board) (u.0 <? units) (says (with_freeze u (change (b.freezes u)) b) (before (freeze_number (b.freezes u)))) (says b (refused 103))
    (λ e. record {
      waiting = λ v. refl;
      active = refl;
      finished = refl;
      freezes = λ v k. at_other u v (change (b.freezes u)) b.freezes k;
      clock = refl;
      mark = refl;
      given = refl;
    })
    (λ e. record { waiting = λ v. refl; active = refl; finished = refl; freezes = λ v k. refl; clock = refl; mark = refl; given = refl })

pub freeze_alone : (b : Board) (u : Unit) → SameButFreeze u b (step b (freeze u)).board
unfolding step
freeze_alone = alone one_freeze

pub release_alone : (b : Board) (u : Unit) → SameButFreeze u b (step b (release u)).board
unfolding step
release_alone = alone one_release

-- ---- by an event

-- an active request of another unit taken out
active_without : (v : Unit) (t : Ticket) (l : List Active) (a : Active) → find ticket_of_active t l ≡ Some a → v ≢ a.request.unit → active_on v (without ticket_of_active t l) ≡ active_on v l
unfolding find without active_on
active_without v t [] a = λ e n. none≢some e
active_without v t (x ∷ more) a =
    both_ifs (λ o l. o ≡ Some a → v ≢ a.request.unit → active_on v l ≡ active_on v (x ∷ more)) (same_ticket (ticket_of_active x) t) (Some x) (find ticket_of_active t more) more (x ∷ without ticket_of_active t more)
    (λ e n.
    let p : x ≡ a = cc in
    let q : same_unit x.request.unit v ≡ false = refute (same_unit x.request.unit v) (λ k. absurd (n (sym (one_unit (same k)) ∙ ap (λ y. y.request.unit) p))) in
    rw q)
    (λ e n. both_ifs (λ y z. y ≡ z) (same_unit x.request.unit v) _ _ _ _ (ap (λ y. x ∷ y) (active_without v t more a e n)) (active_without v t more a e n))

module _ (b : Board) (v : Unit) where
  unaltered : SameRecords v b b
  unaltered = record { waiting = refl; active = refl; freeze = refl }

  event_by : (a : Active) (x : Result End Implausible) → find ticket_of_active (ticket_of_active a) b.active ≡ Some a → v ≢ a.request.unit → SameRecords v b (reported_by b a.request x).board
  unfolding reported_by ended_active
  event_by a (Err why) k n = unaltered
  event_by a (Ok e) k n = record {
    waiting = refl;
    active = active_without v (ticket_of_active a) b.active a k n;
    freeze = at_other a.request.unit v (freeze_after e.base (b.freezes a.request.unit)) b.freezes n;
  }

pub event_alone : (b : Board) (t : Ticket) (e : Event) (moved : ℕ) (a : Active) (v : Unit) → find ticket_of_active t b.active ≡ Some a → v ≢ a.request.unit → SameRecords v b (step b (event t e moved)).board
unfolding step reporting reported
event_alone b t e moved a v k n =
    rw (k, reported)
    (event_by b v a (ending a e moved) (subst (λ s. find ticket_of_active s b.active ≡ Some a) (sym (find_ticket ticket_of_active t b.active a k)) k) n)

-- ---- by a bus reset

none_on : (v : Unit) (l : List Active) → busy v l ≡ false → active_on v l ≡ []
unfolding busy any active_on
none_on v [] e = refl
none_on v (a ∷ more) e =
    let p = neither (same_unit a.request.unit v) (busy v more) e in
    rw p.0 (none_on v more p.1)

same_freeze : (l : List Active) (b : Board) (v : Unit) → busy v l ≡ false → (all_ended l b).freezes v ≡ b.freezes v
unfolding all_ended ended_active busy any
same_freeze [] b v e = refl
same_freeze (a ∷ more) b v e =
    let p = neither (same_unit a.request.unit v) (busy v more) e in
    let x = end_unmoved 0x0E a.request in
    same_freeze more (ended_active a.request x b) v p.1
    ∙ at_other a.request.unit v (freeze_after x.base (b.freezes a.request.unit)) b.freezes (λ k. differ p.0 (ap (λ u. u.0) (sym k)))

pub reset_alone : (b : Board) (v : Unit) → busy v b.active ≡ false → SameRecords v b (step b reset).board
unfolding step resetting active_on busy
reset_alone b v e =
    let l = by_ticket ticket_of_active b.active in
    let k = all_ended_keeps l (with_active [] b) in record {
      waiting = ap (λ w. w v) k.waiting;
      active = ap (active_on v) k.active ∙ sym (none_on v b.active e);
      freeze = same_freeze l (with_active [] b) v (any_by_ticket ticket_of_active (λ a. same_unit a.request.unit v) b.active ∙ e);
    }
