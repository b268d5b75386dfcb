-- How many slots pass a test, before and after a store, and what that tells of a search. Assumes nothing.
use Rattle.std.specs.Prelude.{if◌then◌else◌, Option, Some, None}
use Prim.Native.Nat.{ℕ, zero, suc, ◌+◌, ◌<◌, ◌≤◌}
use native.Mathlib.Omega.{arith}
use mathlib.Core.Path.{◌≡◌, refl, sym, ap, subst}
use mathlib.Core.Logic.{◌≢◌}
use mathlib.Core.Bool.{Bool, true, false, not}
use mathlib.Core.List.{List}
use lib.ListN.{length, set}
use lib.Seq.{get_or-set_same, get_or-set_other}
use Rattle.board.specs.Plain.{◌=?◌}
use Rattle.board.proofs.Choose.{by_cases, same, differ}
use Rattle.copies.specs.Slots.{number_in, slot_of, slots_passing}
use Rattle.copies.proofs.Slotted.{slot_none}
use Rattle.copies.proofs.Copied.{unless_same}

abbrev one : Bool → ℕ
one c = if c then 1 else 0

-- a store past the slots counted
pub passing_past : (n : ℕ) (test : ℕ → Bool) (book : List ℕ) (k x : ℕ) → n ≤ k → slots_passing n test (set book k x) ≡ slots_passing n test book
unfolding slots_passing
passing_past zero test book k x h = refl
passing_past (suc n) test book k x h = rw (get_or-set_other book k n x 0 (omega arith), passing_past n test book k x (omega arith)) refl

-- a store to slot i: what it had no longer counts, what it has now does
pub passing_set : (n : ℕ) (test : ℕ → Bool) (book : List ℕ) (i x : ℕ) → i < n → i < length book
    → slots_passing n test (set book i x) + one (test (number_in book i)) ≡ slots_passing n test book + one (test x)
unfolding slots_passing
passing_set zero test book i x h l = absurd (omega arith)
passing_set (suc n) test book i x h l = by_cases (n =? i)
    (λ s. let e : n ≡ i = same s in
    let new : number_in (set book i x) n ≡ x = subst (λ (k : ℕ). number_in (set book i x) k ≡ x) (sym e) (get_or-set_same book i x 0 l) in
    let old : number_in book n ≡ number_in book i = ap (number_in book) e in
    let past = passing_past n test book i x (omega arith) in
    rw (new, old, past) (omega arith))
    (λ s. let d : n ≢ i = differ s in
    let kept = get_or-set_other book i n x 0 d in
    let more = passing_set n test book i x (omega arith) l in
    rw kept (omega arith))

-- no slot passes a test that none passes
pub passing_none : (n : ℕ) (test : ℕ → Bool) (book : List ℕ) (i : ℕ) → slots_passing n test book ≡ 0 → i < n → test (number_in book i) ≡ false
unfolding slots_passing
passing_none zero test book i e h = absurd (omega arith)
passing_none (suc n) test book i e h = by_cases (n =? i)
    (λ s. subst (λ (k : ℕ). test (number_in book k) ≡ false) (same s) (go (test (number_in book n)) refl))
    (λ s. let d : n ≢ i = differ s in passing_none n test book i (omega arith) (omega arith))
  where
    go : (c : Bool) → test (number_in book n) ≡ c → test (number_in book n) ≡ false
    go true k = let p : one (test (number_in book n)) ≡ 1 = ap one k in absurd (omega arith)
    go false k = k

-- where every slot passes, as many pass as there are
passing_all : (n : ℕ) (test : ℕ → Bool) (book : List ℕ) → ((i : ℕ) → i < n → test (number_in book i) ≡ true) → slots_passing n test book ≡ n
unfolding slots_passing
passing_all zero test book f = refl
passing_all (suc n) test book f =
    let p : one (test (number_in book n)) ≡ 1 = ap one (f n (omega arith)) in
    let q = passing_all n test book (λ i h. f i (omega arith)) in
    omega arith

pub passing_nobody : (n : ℕ) (test : ℕ → Bool) (book : List ℕ) → ((i : ℕ) → i < n → test (number_in book i) ≡ false) → slots_passing n test book ≡ 0
unfolding slots_passing
passing_nobody zero test book f = refl
passing_nobody (suc n) test book f =
    let p : one (test (number_in book n)) ≡ 0 = ap one (f n (omega arith)) in
    let q = passing_nobody n test book (λ i h. f i (omega arith)) in
    omega arith

abbrev pub used : ℕ → Bool
used x = not (x =? 0)

abbrev pub has : ℕ → ℕ → Bool
has t x = x =? t

-- with fewer than 32 used, a free slot is found
pub free_slot : (book : List ℕ) → length book ≡ 64 → slots_passing 32 used book < 32 → (i : ℕ) × (slot_of book 0 ≡ Some i)
free_slot book z h = go (slot_of book 0) refl
  where
    go : (o : Option ℕ) → slot_of book 0 ≡ o → (i : ℕ) × (slot_of book 0 ≡ Some i)
    go (Some i) e = (i, e)
    go None e = let p = passing_all 32 used book (λ i k. ap not (unless_same (slot_none book 0 z e i k))) in absurd (omega arith)

-- a number that a slot has is found
pub found_slot : (book : List ℕ) (t : ℕ) → length book ≡ 64 → 1 ≤ slots_passing 32 (has t) book → (i : ℕ) × (slot_of book t ≡ Some i)
found_slot book t z h = go (slot_of book t) refl
  where
    go : (o : Option ℕ) → slot_of book t ≡ o → (i : ℕ) × (slot_of book t ≡ Some i)
    go (Some i) e = (i, e)
    go None e = let p = passing_nobody 32 (has t) book (λ i k. unless_same (slot_none book t z e i k)) in absurd (omega arith)

-- a number that no slot has
pub nowhere_has : (book : List ℕ) (t : ℕ) → slots_passing 32 (has t) book ≡ 0 → (i : ℕ) → i < 32 → number_in book i ≢ t
nowhere_has book t e i h = differ (passing_none 32 (has t) book i e h)
