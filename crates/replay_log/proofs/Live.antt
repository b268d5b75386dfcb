-- How many live tickets pass a test, before and after a call. Assumes nothing.
use Rattle.std.specs.Prelude.{if◌then◌else◌}
use Prim.Native.Nat.{ℕ, ◌+◌, ◌≤◌}
use native.Mathlib.Omega.{arith}
use mathlib.Core.Path.{◌≡◌, sym, ap, ◌∙◌, subst}
use mathlib.Core.Bool.{Bool, true, false}
use mathlib.Core.List.{List, map}
use Rattle.board.specs.declared.Ticket.{Ticket}
use Rattle.board.specs.declared.Request.{Request}
use Rattle.board.specs.Plain.{◌=?◌, count}
use Rattle.board.specs.Board.{places, Board, live}
use Rattle.board.specs.Answers.{Answer}
use Rattle.board.specs.Calls.{Call, step}
use Rattle.board.specs.Demand3.{given_by, handed_by}
use Rattle.board.specs.Limits.{Sound, Fits}
use Rattle.desk.specs.View.{Rest, view, Valid}
use Rattle.desk.specs.Promise.{Does}
use Rattle.board.proofs.Choose.{by_cases, same}
use Rattle.board.proofs.Weigh.{weigh, one, weigh_map, weigh_count, weigh_length, weigh_at_most, weigh_each}
use Rattle.board.proofs.Kept.{live_mass}
use Rattle.board.proofs.Places.{kept_step}

-- a test of numbers, as one of requests
abbrev pub on : (ℕ → Bool) → Request → Bool
on test q = test q.ticket.0

abbrev pub on_ticket : (ℕ → Bool) → Ticket → Bool
on_ticket test t = test t.0

-- how many live tickets pass
abbrev pub alive : (ℕ → Bool) → Board → ℕ
alive test b = count (on test) (live b)

count_tickets : (test : ℕ → Bool) (l : List Request) → count (on_ticket test) (map (λ q. q.ticket) l) ≡ weigh (one (on test)) l
count_tickets test l = weigh_count (on_ticket test) (map (λ q. q.ticket) l) ∙ weigh_map (one (on_ticket test)) (λ q. q.ticket) l

-- what is handed back leaves, and what is given comes
pub live_count : (b : Board) (c : Call) → Sound b → (test : ℕ → Bool)
    → alive test (step b c).board + count (on_ticket test) (handed_by (step b c).answer) ≡ alive test b + count (on_ticket test) (given_by (step b c).answer)
live_count b c s test =
    let k = kept_step b c s.own_unit in
    let g = one (on test) in
    let gone : count (on_ticket test) (handed_by (step b c).answer) ≡ weigh g k.gone = ap (count (on_ticket test)) (sym k.hands) ∙ count_tickets test k.gone in
    let came : count (on_ticket test) (given_by (step b c).answer) ≡ weigh g k.came = ap (count (on_ticket test)) (sym k.gives) ∙ count_tickets test k.came in
    let after = weigh_count (on test) (live (step b c).board) ∙ live_mass g (step b c).board in
    let before = weigh_count (on test) (live b) ∙ live_mass g b in
    let balance = k.balance g in
    omega arith

-- the same of the boards that a valid memory shows before and after a call
pub live_shown : {w w' : List ℕ} {r r' : Rest} {c : Call} {a : Answer} {lent : List ℕ} → Valid w r → Does w w' r r' c a lent → (test : ℕ → Bool)
    → alive test (view w' r') + count (on_ticket test) (handed_by a) ≡ alive test (view w r) + count (on_ticket test) (given_by a)
live_shown {w} {w'} {r} {r'} {c} v d test =
    let after = ap (alive test) (d.board v) in
    subst (λ x. alive test (view w' r') + count (on_ticket test) (handed_by x) ≡ alive test (view w r) + count (on_ticket test) (given_by x)) (sym (d.says v))
    (let k = live_count (view w r) c v.sound test in omega arith)

-- no live ticket is 0
pub none_zero : (b : Board) → Sound b → alive (λ n. n =? 0) b ≡ 0
none_zero b s = weigh_count (on (λ n. n =? 0)) (live b) ∙ weigh_each (Fits b) (on (λ n. n =? 0)) (λ q f. by_cases (q.ticket.0 =? 0) (λ e. let z : q.ticket.0 ≡ 0 = same e in let p = f.ticket_from_1 in absurd (omega arith)) (λ e. e)) (live b) s.limits.each

-- at most 32 pass any test
pub at_most_32 : (b : Board) → Sound b → (test : ℕ → Bool) → alive test b ≤ 32
unfolding places
at_most_32 b s test =
    let p = weigh_count (on test) (live b) in
    let q = weigh_at_most (one (on test)) (λ x. 1) (λ x. small (on test x)) (live b) in
    let n = weigh_length (live b) in
    let m = s.limits.within in
    omega arith
  where
    small : (c : Bool) → (if c then 1 else 0) ≤ 1
    small true = omega arith
    small false = omega arith

-- at most one has a ticket
pub at_most_one : (b : Board) → Sound b → (t : Ticket) → alive (λ n. n =? t.0) b ≤ 1
at_most_one b s t = s.limits.tickets t
