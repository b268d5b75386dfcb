-- A send does not see the frozen units' waiting requests. Assumes nothing.
use Rattle.std.specs.Prelude.{Option, Some, None, if◌then◌else◌}
use mathlib.Core.Path.{◌≡◌, refl, sym, ◌∙◌, ap, subst, fun_ext}
use mathlib.Core.Bool.{Bool, true, false, not, ◌&&◌}
use mathlib.Core.List.{List, [], ◌∷◌, ◌++◌}
use Prim.Native.Nat.{ℕ}
use lib.ListN.{length}
use Rattle.board.specs.Types.{Unit, Request, Found}
use Rattle.board.specs.Plain.{◌≤?◌}
use Rattle.board.specs.Board.{same_unit, at, units, most_active, Board, frozen}
use Rattle.board.specs.Answers.{nothing, Stepped, says}
use Rattle.board.specs.Sending.{waits, busy, eligible, rotation, sent_first, sent_by, sending}
use Rattle.board.specs.Calls.{send, step}
use Rattle.board.specs.Demand3.{thinned}
use Rattle.board.proofs.Choose.{both_ifs, same, one_unit}
use Rattle.board.proofs.Moves.{FoundAble, found_able}
use Rattle.board.proofs.Quiet.{not_frozen}

thinned_eligible : (b : Board) (u : Unit) → eligible (thinned b) u ≡ eligible b u
unfolding eligible thinned
thinned_eligible b u = ap (λ x. x && not (busy u b.active)) (go (frozen b u))
  where
    unseen : (w : Bool) → (w && false) ≡ false
    unseen true = refl
    unseen false = refl

    go : (x : Bool) → (waits (if x then [] else b.waiting u) && not x) ≡ (waits (b.waiting u) && not x)
    go true = sym (unseen (waits (b.waiting u)))
    go false = refl

thinned_waiting : (b : Board) (u : Unit) → frozen b u ≡ false → (thinned b).waiting u ≡ b.waiting u
unfolding thinned
thinned_waiting b u e = rw e

-- the same answer, and the board afterwards is the thinned one
record SamePick (b : Board) (s r : Stepped) : Type 0 where
  answer : s.answer ≡ r.answer
  board : s.board ≡ thinned r.board

-- one unit's order changed, before or after the thinning
thinned_at : (b : Board) (u : Unit) (l : List Request) → frozen b u ≡ false → at u l (thinned b).waiting ≡ (λ v. if frozen b v then [] else at u l b.waiting v)
unfolding thinned
thinned_at b u l e = fun_ext (λ v. go v (same_unit v u) (λ j. ap (frozen b) (one_unit (same j)) ∙ e))
  where
    go : (v : Unit) (c : Bool) → (c ≡ true → frozen b v ≡ false)
        → (if c then l else (if frozen b v then [] else b.waiting v)) ≡ (if frozen b v then [] else (if c then l else b.waiting v))
    go v true k = rw (k refl)
    go v false k = refl

same_first : (b : Board) (u : Unit) (n : ℕ) (l : List Request) → frozen b u ≡ false → SamePick b (sent_first (thinned b) u n l) (sent_first b u n l)
unfolding sent_first thinned
same_first b u n [] e = record { answer = refl; board = refl }
same_first b u n (q ∷ more) e = record {
  answer = refl;
  board = ap (λ w. record { waiting = w; active = b.active ++ (record { request = q; start = b.clock; asked = false; overdue = false } ∷ []); finished = b.finished; freezes = b.freezes; clock = b.clock; mark = u; given = b.given }) (thinned_at b u more e);
}

same_by : (b : Board) (r : Option Found) → FoundAble (eligible b) r → SamePick b (sent_by (thinned b) r) (sent_by b r)
unfolding sent_by
same_by b None k = record { answer = refl; board = refl }
same_by b (Some x) k =
    let u = x.unit in let n = x.looked in let e = not_frozen b u k.1 in
    subst (λ l. SamePick b (sent_first (thinned b) u n l) (sent_first b u n (b.waiting u))) (sym (thinned_waiting b u e)) (same_first b u n (b.waiting u) e)

same_pick_sending : (b : Board) → SamePick b (sending (thinned b)) (sending b)
unfolding sending thinned
same_pick_sending b =
    both_ifs (SamePick b) (most_active ≤? length b.active)
    (says (thinned b) (nothing 0)) (sent_by (thinned b) (rotation (eligible (thinned b)) b.mark units 1))
    (says b (nothing 0)) (sent_by b (rotation (eligible b) b.mark units 1))
    record { answer = refl; board = refl }
    (subst (λ able. SamePick b (sent_by (thinned b) (rotation able b.mark units 1)) (sent_by b (rotation (eligible b) b.mark units 1))) (sym (fun_ext (thinned_eligible b)))
    (same_by b (rotation (eligible b) b.mark units 1) (found_able (eligible b) b.mark units 1)))

pub same_answer : (b : Board) → (step (thinned b) send).answer ≡ (step b send).answer
unfolding step
same_answer b = (same_pick_sending b).answer

pub same_pick : (b : Board) → (step (thinned b) send).board ≡ thinned (step b send).board
unfolding step
same_pick b = (same_pick_sending b).board
