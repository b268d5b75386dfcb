-- Laws of slots and copies. Assumes nothing.
use Rattle.std.specs.Prelude.{Option, Some, None}
use Rattle.std.specs.Option.{option_and_then}
use Rattle.std.specs.List.{position_or_len}
use Rattle.std.proofs.lemmas.List.Quantifiers.{position-Some}
use Rattle.std.proofs.lemmas.List.Sums.{fails_before_first}
use Rattle.std.proofs.lemmas.Grind.{common_steps}
use Prim.Native.Nat.{ℕ, suc, ◌+◌, ◌*◌, ◌-◌, ◌<◌, ◌≤◌}
use native.Mathlib.Omega.{arith}
use mathlib.Core.Path.{◌≡◌, refl, sym, ap, ◌∙◌}
use mathlib.Core.Logic.{◌≢◌}
use mathlib.Core.Bool.{Bool}
use mathlib.Core.List.{List, [], ◌∷◌, ◌++◌, append_assoc}
use lib.ListN.{length, get_or, set, take, drop, length-take}
use lib.Seq.{sets, sets-eq, length-sets, drop-drop, length-take-le, get_or-take}
use Rattle.board.specs.Plain.{◌=?◌, ◌≤?◌}
use Rattle.board.proofs.Choose.{if_ind, same, differ, at_most, not_at_most, when_at_most, unless_at_most}
use Rattle.copies.specs.Slots.{number_in, length_in, slot_of, lies_in, lies, pasted, slot_for, noted, store_with, freed_in, forgotten}

-- ---- pasting

pub pasted_fits : (dst src : List ℕ) (at : ℕ) → at + length src ≤ length dst → pasted dst at src ≡ sets dst at src
unfolding pasted
pasted_fits dst src at h = if_ind (λ x. x ≡ sets dst at src) (at + length src ≤? length dst) (sets dst at src) dst (λ e. refl) (λ e. let p : length dst < at + length src = not_at_most e in absurd (omega arith))

pub pasted_out : (dst src : List ℕ) (at : ℕ) → length dst < at + length src → pasted dst at src ≡ dst
unfolding pasted
pasted_out dst src at h = if_ind (λ x. x ≡ dst) (at + length src ≤? length dst) (sets dst at src) dst (λ e. let p : at + length src ≤ length dst = at_most e in absurd (omega arith)) (λ e. refl)

pub pasted_size : (dst src : List ℕ) (at : ℕ) → length (pasted dst at src) ≡ length dst
unfolding pasted
pasted_size dst src at = if_ind (λ (x : List ℕ). length x ≡ length dst) (at + length src ≤? length dst) (sets dst at src) dst (λ e. length-sets dst at src) (λ e. refl)

-- a part put back is a run of stores
pub put_back : (a e : ℕ) (l x : List ℕ) → a ≤ e → e ≤ length l → length x ≡ e - a → take a l ++ (x ++ drop (e - a) (drop a l)) ≡ sets l a x
put_back a e l x h g n =
    let s : a + length x ≤ length l = omega arith in
    let k : a + (e - a) ≡ a + length x = omega arith in
    ap (λ (r : List ℕ). take a l ++ (x ++ r)) (drop-drop (e - a) a l ∙ ap (λ (j : ℕ). drop j l) k) ∙ (sym (append_assoc (take a l) x (drop (a + length x) l)) ∙ sym (sets-eq x l a s))

-- ---- the search for a slot

-- the slot that a search finds
pub slot_some : (book : List ℕ) (t i : ℕ) → slot_of book t ≡ Some i → (i < 32) × (number_in book i ≡ t)
unfolding slot_of
slot_some book t i e =
    let p = position-Some (λ n. n =? t) (take 32 book) i 0 e in
    let m = length-take 32 book in
    let l : i < 32 = omega (arith, p.0, m) in
    (l, sym (get_or-take 32 book i 0 l) ∙ same p.1)

-- where a search finds none, no slot has the number
pub slot_none : (book : List ℕ) (t : ℕ) → length book ≡ 64 → slot_of book t ≡ None → (j : ℕ) → j < 32 → number_in book j ≢ t
unfolding slot_of
slot_none book t z e j h k =
    let m = length-take-le 32 book (omega arith) in
    let o : length (take 32 book) ≤ position_or_len (λ n. n =? t) (take 32 book) = grind (arith, common_steps) in
    differ (fails_before_first (λ n. n =? t) (take 32 book) j 0 (omega arith)) (get_or-take 32 book j 0 h ∙ k)

same_place : (p : ℕ → Bool) (xs ys : List ℕ) → length xs ≡ length ys → ((j : ℕ) → j < length xs → p (get_or xs j 0) ≡ p (get_or ys j 0)) → position_or_len p xs ≡ position_or_len p ys
same_place p [] [] n f = refl
same_place p [] (y ∷ ys) n f = absurd (omega arith)
same_place p (x ∷ xs) [] n f = absurd (omega arith)
same_place p (x ∷ xs) (y ∷ ys) n f = rw (f 0 (omega arith), same_place p xs ys (omega arith) (λ j h. f (suc j) (omega arith))) refl

-- the same search in a book in which the same slots have the number
pub same_slot : (book book' : List ℕ) (t : ℕ) → length book ≡ 64 → length book' ≡ 64 → ((j : ℕ) → j < 32 → (number_in book' j =? t) ≡ (number_in book j =? t)) → slot_of book' t ≡ slot_of book t
unfolding slot_of
same_slot book book' t z z' f = rw (same_place (λ n. n =? t) (take 32 book') (take 32 book) (k' ∙ sym k) (λ j h. let l : j < 32 = omega (arith, h, k') in ap (λ n. n =? t) (get_or-take 32 book' j 0 l) ∙ (f j l ∙ ap (λ n. n =? t) (sym (get_or-take 32 book j 0 l)))), k', k) refl
  where
    k : length (take 32 book) ≡ 32
    k = length-take-le 32 book (omega arith)

    k' : length (take 32 book') ≡ 32
    k' = length-take-le 32 book' (omega arith)

-- ---- what the functions store, case by case

pub forgotten_found : (book : List ℕ) (t i : ℕ) → slot_of book t ≡ Some i → forgotten book t ≡ set book i 0
unfolding forgotten
forgotten_found book t i e = ap (λ o. freed_in o book) e

-- a copy is kept in slot i, the first free one
pub kept_there : (book store block : List ℕ) (t i : ℕ) → slot_of book 0 ≡ Some i → length block ≤ 200
    → (noted book t (length block) ≡ set (set book i t) (32 + i) (length block)) × (store_with book store block ≡ pasted store (200 * i) block)
unfolding noted store_with slot_for
kept_there book store block t i e k = (rw (when_at_most k, e) refl, rw (when_at_most k, e) refl)

pub lies_free : (book : List ℕ) (t : ℕ) → t ≡ 0 → lies book t ≡ None
unfolding lies
lies_free book t e = if_ind (λ x. x ≡ None) (t =? 0) None (option_and_then (lies_in book) (slot_of book t)) (λ k. refl) (λ k. absurd (differ k e))

-- a ticket is none that stands for a free slot
pub lies_at : (book : List ℕ) (t : ℕ) (o : Option ℕ) → t ≢ 0 → slot_of book t ≡ o → lies book t ≡ option_and_then (lies_in book) o
unfolding lies
lies_at book t o n e = if_ind (λ x. x ≡ option_and_then (lies_in book) o) (t =? 0) None (option_and_then (lies_in book) (slot_of book t)) (λ k. absurd (n (same k))) (λ k. ap (option_and_then (lies_in book)) e)

pub lies_long : (book : List ℕ) (i : ℕ) → 200 < length_in book i → lies_in book i ≡ None
unfolding lies_in
lies_long book i k = rw (unless_at_most k) refl

pub lies_there : (book : List ℕ) (i : ℕ) → length_in book i ≤ 200 → lies_in book i ≡ Some record { start = 200 * i; end = 200 * i + length_in book i }
unfolding lies_in
lies_there book i k = rw (when_at_most k) refl
