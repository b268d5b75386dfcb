-- What every move keeps: the live requests, weighed by anything, change by the one that came and the one that went; what waits
-- waits on its own unit; a ticket that is given is the next one. Assumes nothing.
use Rattle.std.specs.Prelude.{if◌then◌else◌, Some}
use mathlib.Core.Path.{◌≡◌, refl, sym, ◌∙◌, ap, subst}
use mathlib.Core.Bool.{Bool, true, false}
use mathlib.Core.List.{List, [], ◌∷◌, ◌++◌, map}
use Prim.Native.Nat.{ℕ, ◌+◌, ◌<◌}
use native.Mathlib.Omega.{arith}
use lib.ListN.{length}
use Rattle.board.specs.Types.{Unit, Request, Active, Finished, End}
use Rattle.board.specs.Plain.{Each}
use Rattle.board.specs.Board.{same_unit, at, units, find, without, by_ticket, ticket_of_active, Board, all_waiting, live, with_active, with_finished}
use Rattle.board.specs.Answers.{Answer, taken, sent, done, handed}
use Rattle.board.specs.TakingIn.{joined}
use Rattle.board.specs.Sending.{sent_from}
use Rattle.board.specs.Ending.{end_unmoved, ended_active}
use Rattle.board.specs.Calls.{ended_waiting, all_ended, Call}
use Rattle.board.specs.Demand3.{given_by, handed_by}
use Rattle.board.proofs.Choose.{if_ind, same, one_unit}
use Rattle.board.proofs.Weigh.{weigh, weigh_append, weigh_map, weigh_same, weigh_at, weigh_without, weigh_by_ticket, each_append, each_without}
use Rattle.board.proofs.Moves.{Home, Joins, Idle, idle_refused, idle_nothing, idle_done, idle_before, idle_time, idle_first, idle_empty, ended_from, reset_from, Move, stays, joins, goes, ends, aborts, marks, freezes, releases, resets, hands_back}

-- ---- the weight of a board's requests

abbrev pub mass : (Request → ℕ) → Board → ℕ
mass g b = weigh g (all_waiting b) + weigh (λ a. g a.request) b.active + weigh (λ x. g x.request) b.finished

pub live_mass : (g : Request → ℕ) (b : Board) → weigh g (live b) ≡ mass g b
unfolding live
live_mass g b =
    let a = map (λ x. x.request) b.active in
    let d = map (λ x. x.request) b.finished in
    omega (
      arith,
      weigh_append g (all_waiting b) (a ++ d),
      weigh_append g a d,
      weigh_map g (λ x. x.request) b.active,
      weigh_map g (λ x. x.request) b.finished,
    )

-- ---- what is kept

-- nobody came, or one that joins
pub data Came (b : Board) : List Request → Type 0 where
  nobody_came : Came b []
  one_came : (q : Request) → Joins b q → Came b (q ∷ [])

pub record Kept (b : Board) (a : Answer) (d : Board) : Type 0 where
  pub came : List Request
  pub gone : List Request
  pub newcomer : Came b came
  pub balance : (g : Request → ℕ) → mass g d + weigh g gone ≡ mass g b + weigh g came
  pub home : Home d
  pub gives : map (λ q. q.ticket) came ≡ given_by a
  pub hands : map (λ q. q.ticket) gone ≡ handed_by a
  pub given : d.given ≡ length came + b.given

-- an answer that gives nothing and hands nothing back
idle_neither : {a : Answer} → Idle a → ([] ≡ given_by a) × ([] ≡ handed_by a)
unfolding given_by handed_by
idle_neither (idle_refused n) = (refl, refl)
idle_neither (idle_nothing n) = (refl, refl)
idle_neither idle_done = (refl, refl)
idle_neither (idle_before n) = (refl, refl)
idle_neither (idle_time n) = (refl, refl)
idle_neither (idle_first t address callback wanted) = (refl, refl)
idle_neither idle_empty = (refl, refl)

-- a move by which nobody comes and nobody goes
kept_steady : (b : Board) (a : Answer) (d : Board) → ((g : Request → ℕ) → mass g d ≡ mass g b) → Home d → [] ≡ given_by a → [] ≡ handed_by a → d.given ≡ b.given → Kept b a d
kept_steady b a d m h g k e = record {
  came = [];
  gone = [];
  newcomer = nobody_came;
  balance = λ f. let p = m f in omega arith;
  home = h;
  gives = g;
  hands = k;
  given = omega arith;
}

-- the orders of waiting, one of them changed
home_at : (b : Board) (u : Unit) (l : List Request) → Home b → Each (λ q. q.unit ≡ u) l → (v : Unit) → Each (λ q. q.unit ≡ v) (at u l b.waiting v)
home_at b u l h k v =
    if_ind (Each (λ q. q.unit ≡ v)) (same_unit v u) l (b.waiting v) (λ e. subst (λ x. Each (λ q. q.unit ≡ x) l) (sym (one_unit (same e))) k) (λ e. h v)

-- ---- joining

weigh_joined : (g : Request → ℕ) (q : Request) (l : List Request) (front : Bool) → weigh g (if front then q ∷ l else l ++ (q ∷ [])) ≡ g q + weigh g l
weigh_joined g q l true = refl
weigh_joined g q l false = let p = weigh_append g l (q ∷ []) in omega arith

each_joined : (P : Request → Type 0) (q : Request) (l : List Request) (front : Bool) → P q → Each P l → Each P (if front then q ∷ l else l ++ (q ∷ []))
unfolding Each
each_joined P q l true p h = (p, h)
each_joined P q l false p h = each_append P l (q ∷ []) h (p, tt)

pub joined_mass : (g : Request → ℕ) (b : Board) (q : Request) (front : Bool) → q.unit.0 < units → mass g (joined q front b) ≡ g q + mass g b
unfolding joined
joined_mass g b q front u =
    let l : List Request = if front then q ∷ b.waiting q.unit else b.waiting q.unit ++ (q ∷ []) in
    let p = weigh_at g units q.unit l b.waiting u in
    let w = weigh_joined g q (b.waiting q.unit) front in
    omega arith

kept_joins : (b : Board) (q : Request) (front : Bool) → Joins b q → Home b → Kept b (taken q.ticket) (joined q front b)
unfolding joined given_by handed_by
kept_joins b q front j h =
    let l : List Request = if front then q ∷ b.waiting q.unit else b.waiting q.unit ++ (q ∷ []) in record {
      came = q ∷ [];
      gone = [];
      newcomer = one_came q j;
      balance = λ g. let p = joined_mass g b q front (let s = j.unit in omega arith) in omega arith;
      home = home_at b q.unit l h (each_joined (λ r. r.unit ≡ q.unit) q (b.waiting q.unit) front refl (h q.unit));
      gives = refl;
      hands = refl;
      given = let t : q.ticket.0 ≡ 1 + b.given = ap (λ t. t.0) j.ticket ∙ omega arith in t;
    }

-- ---- going

kept_goes : (b : Board) (u : Unit) (q : Request) (more : List Request) (n : ℕ) → u.0 < units → b.waiting u ≡ q ∷ more → Home b → Kept b (sent q.ticket u q.cdb n) (sent_from u q more b)
unfolding given_by handed_by Each
kept_goes b u q more n k e h =
    kept_steady b _ _
    (λ g.
    let p = weigh_at g units u more b.waiting k in
    let i = weigh_append (λ a. g a.request) b.active (record { request = q; start = b.clock; asked = false; overdue = false } ∷ []) in
    let w : weigh g (b.waiting u) ≡ g q + weigh g more = ap (weigh g) e in
    omega arith)
    (home_at b u more h (rw e at (h u)).1) refl refl refl

-- ---- ending

kept_ends : (b : Board) (a : Active) (e : End) → find ticket_of_active (ticket_of_active a) b.active ≡ Some a → Home b → Kept b done (ended_from a e b)
unfolding ended_active given_by handed_by
kept_ends b a e k h =
    kept_steady b _ _
    (λ g.
    let p = weigh_without ticket_of_active (λ x. g x.request) (ticket_of_active a) b.active a k in
    rw (weigh_append (λ x. g x.request) b.finished) (omega arith))
    h refl refl refl

kept_aborts : (b : Board) (q : Request) → q.unit.0 < units → find (λ r. r.ticket) q.ticket (b.waiting q.unit) ≡ Some q → Home b → Kept b done (ended_waiting q b)
unfolding ended_waiting given_by handed_by
kept_aborts b q u k h =
    let l : List Request = without (λ r. r.ticket) q.ticket (b.waiting q.unit) in
    kept_steady b _ _
    (λ g.
    let p = weigh_at g units q.unit l b.waiting u in
    let o = weigh_without (λ r. r.ticket) g q.ticket (b.waiting q.unit) q k in
    rw (weigh_append (λ x. g x.request) b.finished) (omega arith))
    (home_at b q.unit l h (each_without (λ r. r.ticket) (λ r. r.unit ≡ q.unit) q.ticket (b.waiting q.unit) (h q.unit)))
    refl refl refl

-- all that were active go to the finished line; nothing else that counts here changes
pub record AllEnded (l : List Active) (b d : Board) : Type 0 where
  pub finished : (g : Request → ℕ) → weigh (λ x. g x.request) d.finished ≡ weigh (λ x. g x.request) b.finished + weigh (λ a. g a.request) l
  pub waiting : d.waiting ≡ b.waiting
  pub active : d.active ≡ b.active
  pub given : d.given ≡ b.given
  pub clock : d.clock ≡ b.clock
  pub mark : d.mark ≡ b.mark

pub all_ended_keeps : (l : List Active) (b : Board) → AllEnded l b (all_ended l b)
unfolding all_ended ended_active
all_ended_keeps [] b = record { finished = λ g. omega arith; waiting = refl; active = refl; given = refl; clock = refl; mark = refl }
all_ended_keeps (a ∷ more) b =
    let k = all_ended_keeps more (ended_active a.request (end_unmoved 0x0E a.request) b) in record {
      finished = λ g.
          let p = k.finished g in
          let w = rw (weigh_append (λ x. g x.request) b.finished) at p in
          omega arith;
      waiting = k.waiting;
      active = k.active;
      given = k.given;
      clock = k.clock;
      mark = k.mark;
    }

kept_resets : (b : Board) → Home b → Kept b done (reset_from b)
unfolding given_by handed_by
kept_resets b h =
    let l = by_ticket ticket_of_active b.active in
    let k = all_ended_keeps l (with_active [] b) in
    kept_steady b _ _
    (λ g.
    let p = k.finished g in
    let w = weigh_by_ticket ticket_of_active (λ a. g a.request) b.active in
    rw (k.waiting, k.active) (omega arith))
    (subst (λ (w : Unit → List Request). (u : Unit) → Each (λ q. q.unit ≡ u) (w u)) (sym k.waiting) h)
    refl refl k.given

-- ---- handing back

kept_hands_back : (b : Board) (x : Finished) (more : List Finished) → b.finished ≡ x ∷ more → Home b → Kept b (handed x.request.ticket x.told) (with_finished more b)
unfolding given_by handed_by
kept_hands_back b x more e h = record {
  came = [];
  gone = x.request ∷ [];
  newcomer = nobody_came;
  balance = λ g.
      let p : weigh (λ z. g z.request) b.finished ≡ g x.request + weigh (λ z. g z.request) more = ap (weigh (λ z. g z.request)) e in
      omega arith;
  home = h;
  gives = refl;
  hands = refl;
  given = omega arith;
}

-- ---- every move

pub kept : {b : Board} {c : Call} {a : Answer} {d : Board} → Move b c a d → Home b → Kept b a d
unfolding given_by handed_by
kept {b} (stays a i) h = kept_steady b a b (λ g. refl) h (idle_neither i).0 (idle_neither i).1 refl
kept {b} (joins q front j) h = kept_joins b q front j h
kept {b} (goes u q more n g e) h = kept_goes b u q more n g.unit e h
kept {b} (ends a e k r) h = kept_ends b a e k h
kept {b} (aborts q u k) h = kept_aborts b q u k h
kept {b} (marks f e s now k a i) h =
    kept_steady b a _
    (λ g. let p = weigh_map (λ x. g x.request) f b.active in
    let q = weigh_same (λ x. g (f x).request) (λ x. g x.request) (λ x. ap g (e x)) b.active in
    omega arith)
    h (idle_neither i).0 (idle_neither i).1 refl
kept {b} (freezes u) h = kept_steady b _ _ (λ g. refl) h refl refl refl
kept {b} (releases u e) h = kept_steady b _ _ (λ g. refl) h refl refl refl
kept {b} resets h = kept_resets b h
kept {b} (hands_back x more e) h = kept_hands_back b x more e h
