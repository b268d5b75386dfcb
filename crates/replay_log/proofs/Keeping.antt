-- What taking in and handing back do to the program's copies: the definition's copies, and a slot for each live request. Assumes nothing.
use Rattle.std.specs.Prelude.{if◌then◌else◌, Some}
use Prim.Native.Nat.{ℕ, ◌+◌, ◌*◌, ◌<◌, ◌≤◌}
use native.Mathlib.Omega.{arith}
use mathlib.Core.Path.{◌≡◌, refl, sym, ap, ◌∙◌, subst}
use mathlib.Core.Logic.{◌≢◌}
use mathlib.Core.Bool.{Bool, false}
use mathlib.Core.List.{List, []}
use lib.ListN.{length, set, length-set}
use lib.Seq.{get_or-set_same, get_or-set_other, length-sets, sets}
use Rattle.board.specs.declared.Ticket.{Ticket}
use Rattle.board.specs.declared.Told.{Told}
use Rattle.board.specs.Plain.{◌=?◌, any, count}
use Rattle.board.specs.Board.{same_ticket}
use Rattle.board.specs.Answers.{Answer, taken, handed}
use Rattle.board.specs.Demand3.{given_by, handed_by}
use Rattle.board.proofs.Choose.{by_cases, same, differ, itself, one_ticket}
use Rattle.copies.specs.Slots.{number_in, length_in, slot_of, slots_passing, copy_of, noted, store_with, forgotten, pasted}
use Rattle.copies.proofs.Slotted.{pasted_fits, slot_some, kept_there, forgotten_found}
use Rattle.copies.proofs.Copied.{unless_same, free_ticket, Elsewhere, paste_elsewhere, paste_reads, other_copy, own_copy, no_copy}
use Rattle.copies.proofs.Counted.{used, has, passing_past, passing_set, free_slot, found_slot, nowhere_has}
use Rattle.replay_log.specs.Replay.{copies_after}
use Rattle.replay_log.proofs.Live.{on_ticket}

-- from book b and store s to b' and s', by this answer with this lent block: slots and copies change as the answer says
pub record Copied (b s b' s' : List ℕ) (a : Answer) (lent : List ℕ) : Type 0 where
  pub book_size : length b' ≡ 64
  pub store_size : length s' ≡ 6400
  pub balance : (test : ℕ → Bool) → test 0 ≡ false → slots_passing 32 test b' + count (on_ticket test) (handed_by a) ≡ slots_passing 32 test b + count (on_ticket test) (given_by a)
  pub copies : (t : Ticket) → copy_of b' s' t ≡ copies_after a lent (copy_of b s) t

-- an answer that gives nothing and hands nothing back
pub unchanged : (b s : List ℕ) (a : Answer) (lent : List ℕ) → length b ≡ 64 → length s ≡ 6400 → given_by a ≡ [] → handed_by a ≡ [] → Copied b s b s a lent
unfolding copies_after any count
unchanged b s a lent p q g h = record {
  book_size = p;
  store_size = q;
  balance = λ test z. rw (g, h) refl;
  copies = λ t. rw (g, h) refl;
}

-- a test that 0 fails, as a number
abbrev one : Bool → ℕ
one c = if c then 1 else 0

-- a book in which slot i has a new number and length
module _ (b : List ℕ) (i x n : ℕ) (p : length b ≡ 64) (l : i < 32) where
  abbrev noted_at : List ℕ
  noted_at = set (set b i x) (32 + i) n

  own_number : number_in noted_at i ≡ x
  own_number = get_or-set_other (set b i x) (32 + i) i n 0 (omega arith) ∙ get_or-set_same b i x 0 (omega arith)

  own_length : length_in noted_at i ≡ n
  own_length = get_or-set_same (set b i x) (32 + i) n 0 (simp length-set (omega arith))

  other_number : (j : ℕ) → j ≢ i → j < 32 → number_in noted_at j ≡ number_in b j
  other_number j d h = get_or-set_other (set b i x) (32 + i) j n 0 (omega arith) ∙ get_or-set_other b i j x 0 d

  other_length : (j : ℕ) → j ≢ i → j < 32 → length_in noted_at j ≡ length_in b j
  other_length j d h = get_or-set_other (set b i x) (32 + i) (32 + j) n 0 (λ e. d (omega arith)) ∙ get_or-set_other b i (32 + j) x 0 (omega arith)

-- an accepted block: it is kept in a free slot
pub kept_copy : (b s lent : List ℕ) (t : Ticket) → length b ≡ 64 → length s ≡ 6400 → length lent ≤ 200 → t.0 ≢ 0 → slots_passing 32 used b < 32 → slots_passing 32 (has t.0) b ≡ 0
    → Copied b s (noted b t.0 (length lent)) (store_with b s lent) (taken t) lent
unfolding copies_after any count given_by handed_by
kept_copy b s lent t p q short n room new = record {
  book_size = ap (λ (l : List ℕ). length l) eb ∙ simp length-set p;
  store_size = ap (λ (l : List ℕ). length l) es ∙ (length-sets s (200 * i) lent ∙ q);
  balance = λ test z.
      let past = passing_past 32 test (set b i t.0) (32 + i) (length lent) (omega arith) in
      let here = passing_set 32 test b i t.0 li (omega (arith, li)) in
      let old : one (test (number_in b i)) ≡ 0 = ap one (ap test empty ∙ z) in
      rw eb (omega arith);
  copies = λ u. by_cases (same_ticket t u) (λ e. rw e (subst (λ x. copy_of b' s' x ≡ lent) (one_ticket (same e)) mine)) (λ e. rw e (others u (differ e)));
}
  where
    i : ℕ
    i = (free_slot b p room).0

    free : slot_of b 0 ≡ Some i
    free = (free_slot b p room).1

    li : i < 32
    li = (slot_some b 0 i free).0

    empty : number_in b i ≡ 0
    empty = (slot_some b 0 i free).1

    size : length (noted_at b i t.0 (length lent) p li) ≡ 64
    size = simp length-set p

    b' : List ℕ
    b' = noted b t.0 (length lent)

    s' : List ℕ
    s' = store_with b s lent

    there : (b' ≡ set (set b i t.0) (32 + i) (length lent)) × (s' ≡ pasted s (200 * i) lent)
    there = kept_there b s lent t.0 i free short

    eb : b' ≡ set (set b i t.0) (32 + i) (length lent)
    eb = there.0

    es : s' ≡ sets s (200 * i) lent
    es = there.1 ∙ pasted_fits s lent (200 * i) (omega (arith, li))

    mine : copy_of b' s' t ≡ lent
    mine = rw (eb, es) (own_copy (noted_at b i t.0 (length lent) p li) (sets s (200 * i) lent) lent i t size n li
        (own_number b i t.0 (length lent) p li)
        (λ j d h k. nowhere_has b t.0 new j h (sym (other_number b i t.0 (length lent) p li j d h) ∙ k))
        (own_length b i t.0 (length lent) p li) short (paste_reads lent s (200 * i) (omega (arith, li))))

    others : (u : Ticket) → t.0 ≢ u.0 → copy_of b' s' u ≡ copy_of b s u
    others u d = by_cases (u.0 =? 0)
        (λ z. free_ticket b' s' u (same z) ∙ sym (free_ticket b s u (same z)))
        (λ z. rw (eb, es) (other_copy b (noted_at b i t.0 (length lent) p li) s (sets s (200 * i) lent) i u p size
        (λ k. differ z (sym k ∙ empty))
        (λ k. d (sym (own_number b i t.0 (length lent) p li) ∙ k))
        (other_number b i t.0 (length lent) p li)
        (other_length b i t.0 (length lent) p li)
        (paste_elsewhere i lent s short)))

-- a block handed back: its slot is free again. The store may have changed in that slot's room.
pub dropped_copy : (b s s' lent : List ℕ) (t : Ticket) (x : Told) → length b ≡ 64 → length s ≡ 6400 → t.0 ≢ 0
    → slots_passing 32 (has t.0) b ≡ 1 → length s' ≡ length s → ((i : ℕ) → slot_of b t.0 ≡ Some i → Elsewhere i s s')
    → Copied b s (forgotten b t.0) s' (handed t x) lent
unfolding copies_after any count given_by handed_by
dropped_copy b s s' lent t x p q n once z e = record {
  book_size = ap (λ (l : List ℕ). length l) eb ∙ (length-set b i 0 ∙ p);
  store_size = z ∙ q;
  balance = λ test z. let h = here test z in rw eb (omega arith);
  copies = λ u. by_cases (same_ticket t u) (λ k. rw k (subst (λ (y : Ticket). copy_of b' s' y ≡ []) (one_ticket (same k)) gone)) (λ k. rw k (others u (differ k)));
}
  where
    i : ℕ
    i = (found_slot b t.0 p (omega arith)).0

    found : slot_of b t.0 ≡ Some i
    found = (found_slot b t.0 p (omega arith)).1

    at_slot : (i < 32) × (number_in b i ≡ t.0)
    at_slot = slot_some b t.0 i found

    b' : List ℕ
    b' = forgotten b t.0

    eb : b' ≡ set b i 0
    eb = forgotten_found b t.0 i found

    here : (test : ℕ → Bool) → test 0 ≡ false → slots_passing 32 test (set b i 0) + one (test t.0) ≡ slots_passing 32 test b
    here test z =
        let k = passing_set 32 test b i 0 at_slot.0 (omega (arith, at_slot.0)) in
        let old : one (test (number_in b i)) ≡ one (test t.0) = ap (λ (y : ℕ). one (test y)) at_slot.1 in
        let new : one (test 0) ≡ 0 = ap one z in
        omega arith

    gone : copy_of b' s' t ≡ []
    gone = rw eb (no_copy (set b i 0) s' t (λ z. nowhere_has (set b i 0) t.0 none))
      where
        none : slots_passing 32 (has t.0) (set b i 0) ≡ 0
        none =
            let h = here (has t.0) (unless_same (λ k. n (sym k))) in
            let me : one (has t.0 t.0) ≡ 1 = ap one (itself t.0) in
            omega arith

    others : (u : Ticket) → t.0 ≢ u.0 → copy_of b' s' u ≡ copy_of b s u
    others u d = by_cases (u.0 =? 0)
        (λ z. free_ticket b' s' u (same z) ∙ sym (free_ticket b s u (same z)))
        (λ z. rw eb (other_copy b (set b i 0) s s' i u p (length-set b i 0 ∙ p)
        (λ k. d (sym at_slot.1 ∙ k))
        (λ k. differ z (sym k ∙ get_or-set_same b i 0 0 (omega (arith, at_slot.0))))
        (λ j o h. get_or-set_other b i j 0 0 o)
        (λ j o h. get_or-set_other b i (32 + j) 0 0 (omega (arith, at_slot.0)))
        (e i found)))
