-- What keeping and forgetting do to the copies, and to how many slots pass a test. Assumes nothing.
use Rattle.std.specs.Prelude.{Option, Some, None, slice_range}
use Rattle.std.specs.declared.ops.Range.{Range}
use Rattle.std.specs.Option.{option_and_then, unwrap_or}
use Prim.Native.Nat.{ℕ, suc, ◌+◌, ◌*◌, ◌-◌, ◌<◌, ◌≤◌, min}
use native.Mathlib.Omega.{arith}
use mathlib.Core.Path.{◌≡◌, refl, sym, ap, ◌∙◌, subst}
use mathlib.Core.Logic.{◌≢◌}
use mathlib.Core.Bool.{false}
use mathlib.Core.List.{List, [], ◌∷◌, ◌++◌, append_assoc}
use lib.ListN.{length, get_or, set, take, drop, length-take, length-drop}
use lib.Seq.{sets, sets-eq, length-sets, length-take-le, take_at, drop_at, ext_get_or, get_or-take, get_or-drop, get_or-set_other}
use Rattle.board.specs.declared.Ticket.{Ticket}
use Rattle.board.specs.Plain.{◌=?◌, ◌≤?◌}
use Rattle.board.proofs.Choose.{by_cases, same, differ, refute, at_most, not_at_most}
use Rattle.copies.specs.Slots.{number_in, length_in, slot_of, lies_in, lies, bytes_in, copy_of}
use Rattle.copies.proofs.Slotted.{slot_some, slot_none, same_slot, lies_free, lies_at, lies_there, lies_long}

pub unless_same : {m n : ℕ} → m ≢ n → (m =? n) ≡ false
unless_same {m} {n} d = refute (m =? n) (λ e. absurd (d (same e)))

-- ---- the store

-- the stores are the same but for the room of slot i
pub record Elsewhere (i : ℕ) (store store' : List ℕ) : Type 0 where
  pub size : length store' ≡ length store
  pub same_bytes : (k : ℕ) → (200 * i ≤ k → k < 200 * i + 200 → ⊥) → get_or store' k 0 ≡ get_or store k 0

pub sets_off : (vs l : List ℕ) (a k : ℕ) → (a ≤ k → k < a + length vs → ⊥) → get_or (sets l a vs) k 0 ≡ get_or l k 0
sets_off [] l a k f = refl
sets_off (v ∷ vs) l a k f =
    sets_off vs (set l a v) (suc a) k (λ h g. f (omega arith) (omega arith)) ∙ get_or-set_other l a k v 0 (λ e. f (omega arith) (omega arith))

pub paste_elsewhere : (i : ℕ) (vs store : List ℕ) → length vs ≤ 200 → Elsewhere i store (sets store (200 * i) vs)
paste_elsewhere i vs store h = record { size = length-sets store (200 * i) vs; same_bytes = λ k f. sets_off vs store (200 * i) k (λ g l. f g (omega arith)) }

-- what was pasted stands there
pub paste_reads : (vs l : List ℕ) (a : ℕ) → a + length vs ≤ length l → take (length vs) (drop a (sets l a vs)) ≡ vs
paste_reads vs l a h =
    let more = drop (a + length vs) l in
    let d : drop a (sets l a vs) ≡ vs ++ more = ap (drop a) (sets-eq vs l a h ∙ append_assoc (take a l) vs more) ∙ drop_at (take a l) (vs ++ more) a (length-take-le a l (omega arith)) in
    ap (take (length vs)) d ∙ take_at vs more (length vs) refl

-- the bytes of another slot
elsewhere_bytes : (i j n : ℕ) (store store' : List ℕ) → Elsewhere i store store' → j ≢ i → n ≤ 200 → take n (drop (200 * j) store') ≡ take n (drop (200 * j) store)
elsewhere_bytes i j n store store' e d h =
    ext_get_or 0 _ _ (by_length n (200 * j))
    (λ k l. let lk : k < n = shorter n (drop (200 * j) store') k l in
    get_or-take n (drop (200 * j) store') k 0 lk
    ∙ (get_or-drop (200 * j) store' k 0
    ∙ (e.same_bytes (200 * j + k) (λ g o. apart g o lk)
    ∙ (sym (get_or-drop (200 * j) store k 0) ∙ sym (get_or-take n (drop (200 * j) store) k 0 lk)))))
  where
    by_length : (n a : ℕ) → length (take n (drop a store')) ≡ length (take n (drop a store))
    by_length n a = length-take n (drop a store') ∙ (ap (min n) (length-drop a store' ∙ (ap (λ (k : ℕ). k - a) e.size ∙ sym (length-drop a store))) ∙ sym (length-take n (drop a store)))

    shorter : (n : ℕ) (l : List ℕ) (k : ℕ) → k < length (take n l) → k < n
    shorter n l k h = let p = length-take n l in omega arith

    apart : {k : ℕ} → 200 * i ≤ 200 * j + k → 200 * j + k < 200 * i + 200 → k < n → ⊥
    apart g o lk = d (omega arith)

abbrev pub nowhere : Range ℕ
nowhere = record { start = 0; end = 0 }

-- the bytes of a copy, where no copy has none
pub bytes_there : (store : List ℕ) (o : Option (Range ℕ)) → bytes_in store o ≡ slice_range store (unwrap_or o nowhere).start (unwrap_or o nowhere).end
bytes_there store None = refl
bytes_there store (Some r) = refl

-- what lies outside the room of a ticket's slot lies outside its copy
pub outside_copy : (book : List ℕ) (t i k : ℕ) → slot_of book t ≡ Some i → (200 * i ≤ k → k < 200 * i + 200 → ⊥) → (unwrap_or (lies book t) nowhere).start ≤ k → k < (unwrap_or (lies book t) nowhere).end → ⊥
outside_copy book t i k e f = by_cases (t =? 0)
    (λ z. rw (lies_free book t (same z)) (λ g l. omega arith))
    (λ z. rw (lies_at book t (Some i) (differ z) e) (by_cases (length_in book i ≤? 200)
    (λ o. rw (lies_there book i (at_most o)) (λ g l. let n : length_in book i ≤ 200 = at_most o in f g (omega arith)))
    (λ o. rw (lies_long book i (not_at_most o)) (λ g l. omega arith))))

-- ---- the copies

-- where two books have the same length in slot j, and two stores the same bytes, the copy is the same
same_copy : (book book' store store' : List ℕ) (i j : ℕ) → j ≢ i → length_in book' j ≡ length_in book j → Elsewhere i store store' → bytes_in store' (lies_in book' j) ≡ bytes_in store (lies_in book j)
same_copy book book' store store' i j d f e = by_cases (length_in book j ≤? 200)
    (λ g. rw (lies_there book' j (subst (λ (n : ℕ). n ≤ 200) (sym f) (at_most g)), lies_there book j (at_most g), f)
    (let n : 200 * j + length_in book j - 200 * j ≡ length_in book j = omega arith in
    rw n (elsewhere_bytes i j (length_in book j) store store' e d (at_most g))))
    (λ g. rw (lies_long book' j (subst (λ (n : ℕ). 200 < n) (sym f) (not_at_most g)), lies_long book j (not_at_most g)) refl)

-- a ticket that slot i has neither before nor afterwards keeps its copy
pub other_copy : (book book' store store' : List ℕ) (i : ℕ) (s : Ticket) → length book ≡ 64 → length book' ≡ 64 → number_in book i ≢ s.0 → number_in book' i ≢ s.0
    → ((j : ℕ) → j ≢ i → j < 32 → number_in book' j ≡ number_in book j)
    → ((j : ℕ) → j ≢ i → j < 32 → length_in book' j ≡ length_in book j)
    → Elsewhere i store store'
    → copy_of book' store' s ≡ copy_of book store s
unfolding copy_of
other_copy book book' store store' i s p p' d d' f g e = by_cases (s.0 =? 0)
    (λ z. rw (lies_free book' s.0 (same z), lies_free book s.0 (same z)) refl)
    (λ z. rw (lies_at book' s.0 (slot_of book s.0) (differ z) slots, lies_at book s.0 (slot_of book s.0) (differ z) refl) (go (slot_of book s.0) refl))
  where
    slots : slot_of book' s.0 ≡ slot_of book s.0
    slots = same_slot book book' s.0 p p' (λ j l. by_cases (j =? i)
        (λ k. subst (λ (x : ℕ). (number_in book' x =? s.0) ≡ (number_in book x =? s.0)) (sym (same k)) (unless_same d' ∙ sym (unless_same d)))
        (λ k. ap (λ (x : ℕ). x =? s.0) (f j (differ k) l)))

    go : (o : Option ℕ) → slot_of book s.0 ≡ o → bytes_in store' (option_and_then (lies_in book') o) ≡ bytes_in store (option_and_then (lies_in book) o)
    go None k = refl
    go (Some j) k =
        let there = slot_some book s.0 j k in
        let apart : j ≢ i = λ n. d (subst (λ (x : ℕ). number_in book x ≡ s.0) n there.1) in
        same_copy book book' store store' i j apart (g j apart there.0) e

-- a ticket that only slot i has: its copy
pub own_copy : (book store block : List ℕ) (i : ℕ) (t : Ticket) → length book ≡ 64 → t.0 ≢ 0 → i < 32 → number_in book i ≡ t.0
    → ((j : ℕ) → j ≢ i → j < 32 → number_in book j ≢ t.0)
    → length_in book i ≡ length block → length block ≤ 200
    → take (length block) (drop (200 * i) store) ≡ block
    → copy_of book store t ≡ block
unfolding copy_of
own_copy book store block i t p n l k f g h e =
    rw (lies_at book t.0 (Some i) n (only (slot_of book t.0) refl), lies_there book i (subst (λ (x : ℕ). x ≤ 200) (sym g) h), g)
    (let m : 200 * i + length block - 200 * i ≡ length block = omega arith in rw m e)
  where
    only : (o : Option ℕ) → slot_of book t.0 ≡ o → slot_of book t.0 ≡ Some i
    only None z = absurd (slot_none book t.0 p z i l k)
    only (Some j) z =
        let there = slot_some book t.0 j z in
        by_cases (j =? i) (λ s. z ∙ ap (λ (x : ℕ). Some x) (same s)) (λ s. absurd (f j (differ s) there.0 there.1))

-- the number of a free slot is no ticket
pub free_ticket : (book store : List ℕ) (t : Ticket) → t.0 ≡ 0 → copy_of book store t ≡ []
unfolding copy_of
free_ticket book store t z = rw (lies_free book t.0 z) refl

-- a ticket that no slot has
pub no_copy : (book store : List ℕ) (t : Ticket) → (t.0 ≢ 0 → (j : ℕ) → j < 32 → number_in book j ≢ t.0) → copy_of book store t ≡ []
unfolding copy_of
no_copy book store t f = by_cases (t.0 =? 0)
    (λ z. rw (lies_free book t.0 (same z)) refl)
    (λ z. rw (lies_at book t.0 None (differ z) (none (differ z) (slot_of book t.0) refl)) refl)
  where
    none : t.0 ≢ 0 → (o : Option ℕ) → slot_of book t.0 ≡ o → slot_of book t.0 ≡ None
    none n None z = z
    none n (Some j) z = let there = slot_some book t.0 j z in absurd (f n j there.0 there.1)
