-- Sending, on the words. Assumes nothing.
use Rattle.std.specs.Prelude.{Option, Some, None, is_some, if◌then◌else◌}
use Rattle.std.proofs.Common.{◌≡◌, ℕ, ◌+◌, ◌<◌, ◌≤◌, Bool, true, false, not, ◌&&◌, cond, eqb, ltb, ◌≢◌, List, [], ◌∷◌, ◌++◌, map, length, sym, refl, ap, ◌∙◌, subst, arith}
use borrow.Author.Tests.{ltb-true}
use lib.ListN.{length-map}
use Rattle.board.specs.declared.Unit.{Unit}
use Rattle.board.specs.declared.Request.{Request}
use Rattle.board.specs.declared.Found.{Found}
use Rattle.board.specs.Board.{units, most_active, Board}
use Rattle.board.specs.Answers.{sent, nothing, Stepped, says}
use Rattle.board.specs.Sending.{eligible, found, rotation, sent_from, sent_first, sent_by, sending}
use Rattle.board.specs.Calls.{send, step}
use Rattle.board.proofs.Choose.{both, true≢false, when_at_most, unless_at_most}
use Rattle.board.proofs.Moves.{FoundAble, found_able}
use Rattle.rows.specs.Words.{head, as_place, popped}
use Rattle.rows.specs.Rows.{row_of}
use Rattle.rows.proofs.Shown.{row_some}
use Rattle.rows.proofs.Carry.{Out, first_out, Carried, carry, read_left, read_same, read_joined}
use Rattle.desk.specs.Words.{freeze_at, has_active, can_send, started, launched}
use Rattle.desk.specs.View.{request_at, active_at, finished_at, Rest, the_rest, view, Valid}
use Rattle.desk.specs.Promise.{Does, Sends}
use Rattle.desk.proofs.Read.{SamePlace, same_request_at, kept_place, same_active_at, stores_links, stores_other, stores_low, started_active}
use Rattle.desk.proofs.Views.{board_same, does, waiting_on, waiting_changed, same_freezes, request_others, active_others, finished_others}
use Rattle.desk.proofs.Eligible.{rotation_same, eligible_words}

-- ---- how many are active

active_length : (m : List ℕ) (r : Rest) → length (view m r).active ≡ length (row_of m 2)
unfolding view
active_length m r = length-map (row_of m 2) (active_at m)

eight : most_active ≡ 8
unfolding most_active
eight = refl

-- what a send makes of a board, by whether 8 are active
abbrev by : Board → Bool → Stepped
by b t = if t then says b (nothing 0) else sent_by b (rotation (eligible b) b.mark units 1)

step_full : (m : List ℕ) (r : Rest) → 8 ≤ length (row_of m 2) → Valid m r → step (view m r) send ≡ says (view m r) (nothing 0)
unfolding step sending
step_full m r h v = ap (by (view m r)) (when_at_most {m = most_active} {n = length (view m r).active} (let e = active_length m r in let d = eight in omega arith))

-- what the rotation finds on the words, it finds on the board
step_by : (m : List ℕ) (r : Rest) → length (row_of m 2) < 8 → (s : Option Found) → rotation (can_send m) r.mark 64 1 ≡ s → Valid m r → step (view m r) send ≡ sent_by (view m r) s
unfolding step sending view
step_by m r h s e v =
    ap (by (view m r)) (unless_at_most {m = most_active} {n = length (view m r).active} (let l = active_length m r in let d = eight in omega arith))
    ∙ ap (sent_by (view m r)) (rotation_same (eligible (view m r)) (can_send m) r.mark 64 1 (eligible_words m r v) ∙ e)

pub send_full : (m : List ℕ) (r : Rest) → 8 ≤ length (row_of m 2) → Does m m r r send (nothing 0) []
send_full m r h =
    does (λ v. v.rows) (λ v. sym (ap (λ s. s.board) (step_full m r h v))) (λ v. sym (ap (λ s. s.answer) (step_full m r h v))) (λ v. sym (ap (λ s. s.lent) (step_full m r h v))) (λ n e. refl)

pub full_sends : (m : List ℕ) (clock : ℕ) (mark : Unit) → 8 ≤ length (row_of m 2) → Sends m m clock mark mark (nothing 0)
full_sends m clock mark h = record { does = λ given. send_full m (the_rest clock mark given) h; idle = λ n e. refl }

pub send_none : (m : List ℕ) (r : Rest) → length (row_of m 2) < 8 → rotation (can_send m) r.mark 64 1 ≡ None → Does m m r r send (nothing 64) []
unfolding sent_by
send_none m r h e =
    does (λ v. v.rows) (λ v. sym (ap (λ s. s.board) (step_by m r h None e v))) (λ v. sym (ap (λ s. s.answer) (step_by m r h None e v))) (λ v. sym (ap (λ s. s.lent) (step_by m r h None e v))) (λ n e. refl)

-- ---- a request is sent

-- whatever the words hold: what the rotation finds is a unit, and its row has a first place
pub found_unit : (m : List ℕ) (mark u : Unit) (n : ℕ) → rotation (can_send m) mark 64 1 ≡ Some (found u n) → (u.0 < 64) × (head m (3 + u.0) < 32)
unfolding can_send
found_unit m mark u n e =
    let f : (u.0 < 64) × (can_send m u ≡ true) = subst (FoundAble (can_send m)) e (found_able (can_send m) mark 64 1) in
    let a = (both (is_some (as_place (head m (3 + u.0))) && eqb (freeze_at m u.0) 0) (not (has_active m u.0)) f.1).0 in
    (f.0, named (head m (3 + u.0)) (both (is_some (as_place (head m (3 + u.0)))) (eqb (freeze_at m u.0) 0) a).0)
  where
    named : (n : ℕ) → is_some (as_place n) ≡ true → n < 32
    named n e = go (ltb n 32) refl e
      where
        go : (c : Bool) → ltb n 32 ≡ c → is_some (cond c (Some n) None) ≡ true → n < 32
        go true z e = ltb-true n 32 z
        go false z e = true≢false (sym e)

module _ (m : List ℕ) (r : Rest) (u : Unit) (hu : u.0 < 64) (hp : head m (3 + u.0) < 32) (v : Valid m r) where
  abbrev k : ℕ
  k = 3 + u.0

  abbrev p : ℕ
  p = head m (3 + u.0)

  abbrev m₁ : List ℕ
  m₁ = popped m (3 + u.0) (head m (3 + u.0))

  abbrev m₂ : List ℕ
  m₂ = started m₁ p r.clock

  -- those behind it
  abbrev more : List ℕ
  more = (row_some m v.rows k (omega arith) hp).0

  out : Out m m₁ k p more
  out = first_out m k p more v.rows (omega arith) (row_some m v.rows k (omega arith) hp).1

  carried : Carried m m₂ (launched m u.0 r.clock) k 2 p false more
  unfolding launched started
  carried = carry false m m₁ m₂ k 2 p more v.rows (omega arith) (omega arith) out (stores_links m₁ p 10 _)

  other : (x : ℕ) → x < 32 → x ≢ p → SamePlace m₁ m₂ x
  unfolding started
  other x h n = stores_other m₁ p 10 _ x (omega arith) h n

  -- the request, now active
  sent_active : active_at (launched m u.0 r.clock) p ≡ record { request = request_at m p; start = r.clock; asked = false; overdue = false }
  unfolding started
  sent_active =
      same_active_at (kept_place m₂ (launched m u.0 r.clock) p carried.kept)
      ∙ (started_active m₁ p r.clock hp out.linked.size
      ∙ ap (λ (q : Request). record { request = q; start = r.clock; asked = false; overdue = false }) (same_request_at (kept_place m m₁ p out.kept).request))

  launched_view : view (launched m u.0 r.clock) (the_rest r.clock u r.given) ≡ sent_from u (request_at m p) (map (request_at m) more) (view m r)
  unfolding view started
  launched_view =
      let m' = launched m u.0 r.clock in
      let r' = the_rest r.clock u r.given in
      board_same (view m' r') (sent_from u (request_at m p) (map (request_at m) more) (view m r))
      (waiting_changed m m' r r' u (map (request_at m) more) hu
      (read_left out carried (request_at m') (request_at m) (request_others out carried other) (omega arith) (omega arith))
      (λ w hw n. read_same out carried (request_at m') (request_at m) (request_others out carried other) (3 + w) (omega arith) (omega arith) (omega arith)))
      (read_joined out carried (active_at m') (active_at m) (active_others out carried other) (omega arith) (omega arith)
      ∙ ap (λ a. map (active_at m) (row_of m 2) ++ (a ∷ [])) sent_active)
      (read_same out carried (finished_at m') (finished_at m) (finished_others out carried other) 1 (omega arith) (omega arith) (omega arith))
      (same_freezes m m' r r' (λ w hw. carried.kept (262 + w) (omega arith) ∙ (stores_low m₁ p 10 _ (262 + w) (omega arith) ∙ out.kept (262 + w) (omega arith))))
      refl
      refl
      refl

  first_waiting : (view m r).waiting u ≡ request_at m p ∷ map (request_at m) more
  first_waiting = waiting_on m r u hu ∙ ap (map (request_at m)) (row_some m v.rows k (omega arith) hp).1

  step_some : (n : ℕ) → length (row_of m 2) < 8 → rotation (can_send m) r.mark 64 1 ≡ Some (found u n)
      → step (view m r) send ≡ says (sent_from u (request_at m p) (map (request_at m) more) (view m r)) (sent (request_at m p).ticket u (request_at m p).cdb n)
  unfolding sent_by sent_first
  step_some n h e = step_by m r h (Some (found u n)) e v ∙ ap (sent_first (view m r) u n) first_waiting

pub send_some : (m : List ℕ) (r : Rest) (u : Unit) (n : ℕ) → length (row_of m 2) < 8 → rotation (can_send m) r.mark 64 1 ≡ Some (found u n)
    → let q = request_at m (head m (3 + u.0)) in
    Does m (launched m u.0 r.clock) r (the_rest r.clock u r.given) send (sent q.ticket u q.cdb n) []
send_some m r u n h e =
    let f = found_unit m r.mark u n e in
    does
    (λ v. (carried m r u f.0 f.1 v).sound)
    (λ v. launched_view m r u f.0 f.1 v ∙ sym (ap (λ s. s.board) (step_some m r u f.0 f.1 v n h e)))
    (λ v. sym (ap (λ s. s.answer) (step_some m r u f.0 f.1 v n h e)))
    (λ v. sym (ap (λ s. s.lent) (step_some m r u f.0 f.1 v n h e)))
    (λ k z. let y : ◌≡◌ {A = ℕ} 0 1 = cc in absurd (omega arith))
