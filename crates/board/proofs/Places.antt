-- Every ticket ever accepted stands in exactly one place. Assumes nothing.
use mathlib.Core.Path.{◌≡◌, refl, sym, ◌∙◌, ap, subst}
use mathlib.Core.List.{List, [], ◌∷◌, ◌++◌, map}
use Prim.Native.Nat.{ℕ, suc, ◌+◌, ◌≤◌}
use native.Mathlib.Omega.{arith}
use lib.ListN.{length}
use Rattle.board.specs.Types.{Ticket, Request}
use Rattle.board.specs.Plain.{Each}
use Rattle.board.specs.Board.{same_ticket, units, ticket_of_active, Board, fresh, all_waiting}
use Rattle.board.specs.Calls.{Call, step, Ran, run}
use Rattle.board.specs.Demand3.{given_by, handed_by, accepted, handed_back, waiting_tickets, active_tickets, finished_tickets, Accounted}
use Rattle.board.proofs.Choose.{if_ind, same}
use Rattle.board.proofs.Weigh.{weigh, one, weigh_append, weigh_map, weigh_length, weigh_count, weigh_empty}
use Rattle.board.proofs.Moves.{Home, moves}
use Rattle.board.proofs.Kept.{mass, Came, nobody_came, one_came, Kept, kept}

-- what a step keeps
pub kept_step : (b : Board) (c : Call) → Home b → Kept b (step b c).answer (step b c).board
kept_step b c h = kept (moves b c h) h

-- a weight of tickets, as one of requests
abbrev by_ticket : (Ticket → ℕ) → Request → ℕ
by_ticket f q = f q.ticket

abbrev is : Ticket → Ticket → ℕ
is t = one (λ s. same_ticket s t)

-- what calls on a board do to the tickets: in and out are in balance, and the accepted ones are new
record Balanced (b : Board) (r : Ran) : Type 0 where
  balance : (f : Ticket → ℕ) → mass (by_ticket f) r.board + weigh f (handed_back r.answers) ≡ mass (by_ticket f) b + weigh f (accepted r.answers)
  home : Home r.board
  once : (t : Ticket) → weigh (is t) (accepted r.answers) ≤ 1
  later : (t : Ticket) → t.0 ≤ b.given → weigh (is t) (accepted r.answers) ≡ 0

-- the tickets accepted by one call and the calls after it
module _ (b d : Board) (r : Ran) (k : Balanced d r) where
  once_more : (l : List Request) → Came b l → d.given ≡ length l + b.given → (t : Ticket) → weigh (is t) (map (λ q. q.ticket) l ++ accepted r.answers) ≤ 1
  once_more l nobody_came e t = k.once t
  once_more l (one_came q j) e t =
      let n : q.ticket.0 ≡ suc b.given = ap (λ s. s.0) j.ticket in
      if_ind (λ x. x + weigh (is t) (accepted r.answers) ≤ 1) (same_ticket q.ticket t) 1 0
      (λ p. let s : q.ticket.0 ≡ t.0 = same p in let z = k.later t (omega arith) in omega arith)
      (λ p. omega (arith, k.once t))

  still_later : (l : List Request) → Came b l → d.given ≡ length l + b.given → (t : Ticket) → t.0 ≤ b.given → weigh (is t) (map (λ q. q.ticket) l ++ accepted r.answers) ≡ 0
  still_later l nobody_came e t h = k.later t (omega arith)
  still_later l (one_came q j) e t h =
      let n : q.ticket.0 ≡ suc b.given = ap (λ s. s.0) j.ticket in
      if_ind (λ x. x + weigh (is t) (accepted r.answers) ≡ 0) (same_ticket q.ticket t) 1 0
      (λ p. let s : q.ticket.0 ≡ t.0 = same p in absurd (omega arith))
      (λ p. omega (arith, k.later t (omega arith)))

balanced : (calls : List Call) (b : Board) → Home b → Balanced b (run b calls)
unfolding run accepted handed_back
balanced [] b h = record { balance = λ f. refl; home = h; once = λ t. omega arith; later = λ t k. refl }
balanced (c ∷ more) b h =
    let k = kept_step b c h in
    let s = step b c in
    let r = run s.board more in
    let i = balanced more s.board k.home in record {
      balance = λ f.
          let p = k.balance (by_ticket f) in
          let q = i.balance f in
          let x = weigh_append f (handed_by s.answer) (handed_back r.answers) in
          let y = weigh_append f (given_by s.answer) (accepted r.answers) in
          let v : weigh f (handed_by s.answer) ≡ weigh (by_ticket f) k.gone = ap (weigh f) (sym k.hands) ∙ weigh_map f (λ q. q.ticket) k.gone in
          let w : weigh f (given_by s.answer) ≡ weigh (by_ticket f) k.came = ap (weigh f) (sym k.gives) ∙ weigh_map f (λ q. q.ticket) k.came in
          omega arith;
      home = i.home;
      once = λ t. subst (λ l. weigh (is t) (l ++ accepted r.answers) ≤ 1) k.gives (once_more b s.board r i k.came k.newcomer k.given t);
      later = λ t n. subst (λ l. weigh (is t) (l ++ accepted r.answers) ≡ 0) k.gives (still_later b s.board r i k.came k.newcomer k.given t n);
    }

pub fresh_mass : (g : Request → ℕ) → mass g fresh ≡ 0
unfolding fresh
fresh_mass g = omega (arith, weigh_empty g units)

pub fresh_home : Home fresh
unfolding fresh Each
fresh_home u = tt

-- what holds of every weight, said of the tickets in the four places
placed : (calls : List Call) (f : Ticket → ℕ) → let r = run fresh calls in
    weigh f (accepted r.answers)
    ≡ weigh f (waiting_tickets r.board) + weigh f (active_tickets r.board) + weigh f (finished_tickets r.board) + weigh f (handed_back r.answers)
placed calls f =
    let r = run fresh calls in
    let p = (balanced calls fresh fresh_home).balance f in
    let z = fresh_mass (by_ticket f) in
    let x = weigh_map f (λ q. q.ticket) (all_waiting r.board) in
    let y = weigh_map f ticket_of_active r.board.active in
    let w = weigh_map f (λ x. x.request.ticket) r.board.finished in
    omega arith

pub accounted : (calls : List Call) → Accounted (run fresh calls)
accounted calls =
    let k = balanced calls fresh fresh_home in record {
      accepted_once = λ t. rw weigh_count (k.once t);
      placed = λ t. simp weigh_count (placed calls (is t));
      handed_back_once = λ t. let p = placed calls (is t) in let q = k.once t in rw weigh_count (omega arith);
      sum = simp weigh_length (placed calls (λ x. 1));
      own_unit = k.home;
    }
