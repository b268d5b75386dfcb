-- Freeze and release, on the words: one law for both. Assumes nothing.
use Rattle.std.specs.Prelude.{Result, Ok, Err, IsErr, if◌then◌else◌}
use Rattle.std.proofs.Common.{◌≡◌, ℕ, ◌+◌, ◌<◌, ◌≤◌, Bool, true, false, cond, not, List, [], set, sym, refl, ap, ◌∙◌, subst, arith, get_or-set_same}
use mathlib.Core.Path.{fun_ext}
use Rattle.board.specs.declared.Unit.{Unit}
use Rattle.board.specs.declared.NoSuchUnit.{NoSuchUnit}
use Rattle.board.specs.Plain.{◌=?◌, ◌<?◌}
use Rattle.board.specs.Board.{the_unit, same_unit, at, units, Freeze, no_freeze, is_frozen, freeze_number, one_freeze, one_release, Board, with_freeze}
use Rattle.board.specs.Answers.{refused, before, bit, Stepped, says, freezing_says}
use Rattle.board.specs.Calls.{freezing, Call, freeze, release, step}
use Rattle.board.proofs.Choose.{by_cases, true≢false, same, differ, below, not_below, when_below, unless_below, one_unit, at_same, at_other}
use Rattle.rows.specs.Rows.{SoundRows}
use Rattle.rows.proofs.Links.{off}
use Rattle.rows.proofs.Carry.{SameLinks, same_links, set_links, same_rows, same_read}
use Rattle.board.specs.Ending.{freeze_after}
use Rattle.ends.specs.Closing.{bad}
use Rattle.desk.specs.Words.{known, freeze_at, word_of, FreezeSet, no_such_unit, freeze_set, frozen_if}
use Rattle.desk.specs.View.{request_at, active_at, finished_at, freeze_of, Rest, view}
use Rattle.desk.specs.Promise.{Does, Freezes}
use Rattle.desk.proofs.Read.{SamePlace, same_request_at, same_active_at, same_finished_at}
use Rattle.desk.proofs.Views.{board_same, does, freeze_on, freezes_changed, same_waiting}

-- ---- what the freeze words say

pub freeze_back : (n : ℕ) → one_freeze (freeze_of n) ≡ freeze_of 1
unfolding one_freeze freeze_of
freeze_back n = refl

pub release_back : (n : ℕ) → one_release (freeze_of n) ≡ freeze_of 0
unfolding one_release freeze_of
release_back n = refl

pub number_back : (n : ℕ) → freeze_number (freeze_of n) ≡ bit (not (n =? 0))
unfolding freeze_number freeze_of
number_back n = refl

pub frozen_back : (n : ℕ) → is_frozen (freeze_of n) ≡ not (n =? 0)
unfolding is_frozen freeze_of
frozen_back n = refl

pub fresh_back : no_freeze ≡ freeze_of 0
unfolding no_freeze freeze_of
fresh_back = refl

-- ---- a store of a freeze word

module _ (m : List ℕ) (u x : ℕ) (h : u < units) where
  abbrev m' : List ℕ
  m' = set m (262 + u) x

  pub frozen_links : SameLinks m (set m (262 + u) x)
  frozen_links = set_links m m (262 + u) x (same_links m) (omega arith)

  pub frozen_place : (p : ℕ) → p < 32 → SamePlace m (set m (262 + u) x) p
  frozen_place p hp = record {
    request = record {
      ticket = off m (262 + u) (198 + p) x (omega arith);
      address = off m (262 + u) (230 + p) x (omega arith);
      fields = λ j l. off m (262 + u) (word_of p j) x (omega arith);
    };
    stage = λ j a b. off m (262 + u) (word_of p j) x (omega arith);
  }

  pub frozen_view : (r : Rest) → SoundRows m → view m' r ≡ with_freeze (the_unit u) (freeze_of x) (view m r)
  unfolding view
  frozen_view r v =
      let s = frozen_links in
      board_same (view m' r) (with_freeze (the_unit u) (freeze_of x) (view m r))
      (same_waiting m m' r r (λ w hw. same_read m m' (request_at m') (request_at m) s v (λ p hp. same_request_at (frozen_place p hp).request) (3 + w) (omega arith)))
      (same_read m m' (active_at m') (active_at m) s v (λ p hp. same_active_at (frozen_place p hp)) 2 (omega arith))
      (same_read m m' (finished_at m') (finished_at m) s v (λ p hp. same_finished_at (frozen_place p hp)) 1 (omega arith))
      (λ w. freezes_changed m m' r r (the_unit u) (freeze_of x) h (ap freeze_of (get_or-set_same m (262 + u) x 0 (let z = v.linked.size in omega arith))) (λ k hk n. off m (262 + u) (262 + k) x (omega arith)) w)
      refl
      refl
      refl

-- ---- a bad end freezes the unit

pub frozen_if_links : (m : List ℕ) (u : ℕ) (c : Bool) → u < units → SameLinks m (frozen_if m u c)
unfolding frozen_if
frozen_if_links m u true h = frozen_links m u 1 h
frozen_if_links m u false h = same_links m

-- a unit's freeze set to what it is
at_itself : {A : Type 0} (u : Unit) (f : Unit → A) → at u (f u) f ≡ f
at_itself u f = fun_ext (λ w. by_cases (same_unit w u) (λ e. subst (λ z. at u (f u) f z ≡ f z) (sym (one_unit (same e))) (at_same u (f u) f)) (λ e. at_other u w (f u) f (λ z. differ e (ap (λ y. y.0) z))))

pub ended_freeze : (m : List ℕ) (r : Rest) (u n : ℕ) → u < units → SoundRows m → view (frozen_if m u (bad n)) r ≡ with_freeze (the_unit u) (freeze_after n ((view m r).freezes (the_unit u))) (view m r)
unfolding frozen_if freeze_after
ended_freeze m r u n h v = go (n =? 0x01)
  where
    b : Board
    b = view m r

    z : Freeze
    z = b.freezes (the_unit u)

    go : (c : Bool) → view (cond (not c) (set m (262 + u) 1) m) r ≡ with_freeze (the_unit u) (if c then z else one_freeze z) b
    go true = ap (λ f. record { waiting = b.waiting; active = b.active; finished = b.finished; freezes = f; clock = b.clock; mark = b.mark; given = b.given }) (sym (at_itself (the_unit u) b.freezes))
    go false = frozen_view m u 1 h r v ∙ ap (λ x. with_freeze (the_unit u) x b) (sym (ap one_freeze (freeze_on m r (the_unit u) h) ∙ freeze_back (freeze_at m u)))

-- ---- a unit by its number

known_none : (u : Unit) (why : NoSuchUnit) → known u ≡ Err why → 64 ≤ u.0
known_none u why = go (u.0 <? 64) refl
  where
    go : (c : Bool) → (u.0 <? 64) ≡ c → if◌then◌else◌ {A = Result ℕ NoSuchUnit} c (Ok u.0) (Err (record {})) ≡ Err why → 64 ≤ u.0
    go true z e = let k : ◌≡◌ {A = ℕ} 0 1 = cc in absurd (omega arith)
    go false z e = not_below z

known_one : (u : Unit) (n : ℕ) → known u ≡ Ok n → (u.0 ≡ n) × (u.0 < 64)
known_one u n = go (u.0 <? 64) refl
  where
    go : (c : Bool) → (u.0 <? 64) ≡ c → if◌then◌else◌ {A = Result ℕ NoSuchUnit} c (Ok u.0) (Err (record {})) ≡ Ok n → (u.0 ≡ n) × (u.0 < 64)
    go true z e = (cc, below z)
    go false z e = let k : ◌≡◌ {A = ℕ} 0 1 = cc in absurd (omega arith)

pub unit_refused : (m : List ℕ) (u : Unit) (x : ℕ) (why : NoSuchUnit) (r : Result Bool NoSuchUnit) → known u ≡ Err why → IsErr r → FreezeSet m m u.0 x r
unit_refused m u x why (Ok b) e i = true≢false (sym i)
unit_refused m u x why (Err w) e i = no_such_unit (known_none u why e) refl

pub unit_set : (m : List ℕ) (u : Unit) (x n : ℕ) → known u ≡ Ok n → FreezeSet m (set m (262 + n) x) u.0 x (Ok (not (freeze_at m n =? 0)))
unit_set m u x n e = let k = known_one u n e in rw (← k.0) (freeze_set k.1 refl)

-- ---- the calls

-- a call that changes a unit's freeze, whatever it was, to what the word x says
module _ (change : Freeze → Freeze) (x : ℕ) (back : (n : ℕ) → change (freeze_of n) ≡ freeze_of x) (u : Unit) (c : Call) (is : (b : Board) → step b c ≡ freezing change b u) where
  -- what the call makes of a board, by the test on the unit
  abbrev by : Board → Bool → Stepped
  by b t = if t then says (with_freeze u (change (b.freezes u)) b) (before (freeze_number (b.freezes u))) else says b (refused 103)

  not_a_unit : (m : List ℕ) (r : Rest) → units ≤ u.0 → Does m m r r c (refused 103) []
  unfolding freezing
  not_a_unit m r h =
      let e : step (view m r) c ≡ says (view m r) (refused 103) = is (view m r) ∙ ap (by (view m r)) (unless_below h) in
      does (λ v. v.rows) (λ v. sym (ap (λ s. s.board) e)) (λ v. sym (ap (λ s. s.answer) e)) (λ v. sym (ap (λ s. s.lent) e)) (λ n z. refl)

  freeze_changed : (m : List ℕ) (r : Rest) → u.0 < units → Does m (set m (262 + u.0) x) r r c (before (bit (not (freeze_at m u.0 =? 0)))) []
  unfolding freezing
  freeze_changed m r h =
      let b = view m r in
      let z : Freeze = freeze_of (freeze_at m u.0) in
      let e : step b c ≡ says (with_freeze u (change z) b) (before (freeze_number z)) =
      is b ∙ (ap (by b) (when_below h) ∙ ap (λ y. says (with_freeze u (change y) b) (before (freeze_number y))) (freeze_on m r u h)) in
      does
      (λ v. (same_rows m (set m (262 + u.0) x) (frozen_links m u.0 x h) v.rows).0)
      (λ v. frozen_view m u.0 x h r v.rows ∙ (ap (λ y. with_freeze u y b) (sym (back (freeze_at m u.0))) ∙ sym (ap (λ s. s.board) e)))
      (λ v. ap before (sym (number_back (freeze_at m u.0))) ∙ sym (ap (λ s. s.answer) e))
      (λ v. sym (ap (λ s. s.lent) e))
      (λ n y. let k : ◌≡◌ {A = ℕ} 0 1 = cc in absurd (omega arith))

  freezing_does : (m m' : List ℕ) (r : Rest) (f : Result Bool NoSuchUnit) → FreezeSet m m' u.0 x f → Does m m' r r c (freezing_says f) []
  freezing_does m m' r f (no_such_unit h e) = subst (λ n. Does m n r r c (refused 103) []) (sym e) (not_a_unit m r h)
  freezing_does m m' r f (freeze_set h e) = subst (λ n. Does m n r r c (before (bit (not (freeze_at m u.0 =? 0)))) []) (sym e) (freeze_changed m r h)

  freezes_no_unit : (m m' : List ℕ) (f : Result Bool NoSuchUnit) → FreezeSet m m' u.0 x f → units ≤ u.0 → freezing_says f ≡ refused 103
  freezes_no_unit m m' f (no_such_unit h e) k = refl
  freezes_no_unit m m' f (freeze_set h e) k = absurd (omega (arith, h, k))

  refused_only_then : (m m' : List ℕ) (f : Result Bool NoSuchUnit) → FreezeSet m m' u.0 x f → (n : ℕ) → freezing_says f ≡ refused n → units ≤ u.0
  refused_only_then m m' f (no_such_unit h e) n z = h
  refused_only_then m m' f (freeze_set h e) n z = let y : ◌≡◌ {A = ℕ} 0 1 = cc in absurd (omega arith)

  pub freezes : (m m' : List ℕ) (f : Result Bool NoSuchUnit) → FreezeSet m m' u.0 x f → Freezes m m' u c (freezing_says f)
  freezes m m' f s = record { does = λ r. freezing_does m m' r f s; no_unit = freezes_no_unit m m' f s; only_then = refused_only_then m m' f s }

pub freeze_is : (u : Unit) (b : Board) → step b (freeze u) ≡ freezing one_freeze b u
unfolding step
freeze_is u b = refl

pub release_is : (u : Unit) (b : Board) → step b (release u) ≡ freezing one_release b u
unfolding step
release_is u b = refl
