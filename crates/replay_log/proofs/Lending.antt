-- A part of the store that is lent comes back in its place. Assumes nothing.
use Rattle.std.specs.Prelude.{Option, Some, None, IfSome, Result}
use Rattle.std.specs.declared.ops.Range.{Range}
use Rattle.std.specs.Option.{unwrap_or}
use Rattle.std.specs.List.{between}
use Rattle.std.proofs.lemmas.List.Edits.{length-between, get_or-between}
use Prim.Native.Nat.{ℕ, ◌+◌, ◌-◌, ◌<◌, ◌≤◌}
use native.Mathlib.Omega.{arith}
use mathlib.Core.Path.{◌≡◌, sym, ap, ◌∙◌, subst}
use mathlib.Core.List.{List, ◌++◌}
use lib.ListN.{length, get_or, take, drop}
use lib.Seq.{sets, length-sets, ext_get_or}
use Rattle.board.specs.declared.Handed.{Handed}
use Rattle.board.specs.declared.NotHanded.{NotHanded}
use Rattle.board.specs.Answers.{handing_back_says}
use Rattle.board.specs.Plain.{◌≤?◌, ◌<?◌}
use Rattle.board.proofs.Choose.{by_cases, at_most, not_at_most, below, not_below}
use Rattle.copies.proofs.Slotted.{put_back}
use Rattle.copies.proofs.Copied.{sets_off, paste_reads, nowhere}
use Rattle.desk.specs.Promise.{HandsBack}

-- hand back with a part of the store; the rest of the store stays as it was
pub record Lends (m m' store store' : List ℕ) (a e : ℕ) (r : Result Handed NotHanded) : Type 0 where
  pub hands_back : HandsBack m m' (between a e store) (between a e store') (handing_back_says r)
  pub size : length store' ≡ length store
  pub outside : (k : ℕ) → (a ≤ k → k < e → ⊥) → get_or store' k 0 ≡ get_or store k 0

pub lends : (m m' l x : List ℕ) (a e : ℕ) (r : Result Handed NotHanded) → a ≤ e → e ≤ length l → length x ≡ length (between a e l) → HandsBack m m' (between a e l) x (handing_back_says r)
    → Lends m m' l (take a l ++ (x ++ drop (e - a) (drop a l))) a e r
lends m m' l x a e r h g k hands = rw (put_back a e l x h g n) record {
  hands_back = subst (λ (y : List ℕ). HandsBack m m' (between a e l) y (handing_back_says r)) (sym back) hands;
  size = length-sets l a x;
  outside = λ j f. sets_off x l a j (λ o p. f o (omega (arith, n)));
}
  where
    n : length x ≡ e - a
    n = k ∙ length-between l a e g

    back : between a e (sets l a x) ≡ x
    back = ap (λ (j : ℕ). take j (drop a (sets l a x))) (sym n) ∙ paste_reads x l a (omega (arith, n))

-- a store whose lent part came back as it was is as it was
pub as_it_was : (l l' : List ℕ) (a e : ℕ) → length l' ≡ length l → ((k : ℕ) → (a ≤ k → k < e → ⊥) → get_or l' k 0 ≡ get_or l k 0) → between a e l' ≡ between a e l → l' ≡ l
as_it_was l l' a e n f p = ext_get_or 0 l' l n (λ k h. by_cases (a ≤? k)
    (λ c. by_cases (k <? e) (λ d. within k (at_most c) (below d)) (λ d. let z : e ≤ k = not_below d in f k (λ o q. omega arith)))
    (λ c. let z : k < a = not_at_most c in f k (λ o q. omega arith)))
  where
    read : (l : List ℕ) (k : ℕ) → a ≤ k → k < e → get_or (between a e l) (k - a) 0 ≡ get_or l k 0
    read l k o q = let s : a + (k - a) ≡ k = omega arith in get_or-between l a e (k - a) 0 (omega arith) ∙ ap (λ (j : ℕ). get_or l j 0) s

    within : (k : ℕ) → a ≤ k → k < e → get_or l' k 0 ≡ get_or l k 0
    within k o q = sym (read l' k o q) ∙ (ap (λ (y : List ℕ). get_or y (k - a) 0) p ∙ read l k o q)

-- a part that was found, or no bytes, lies within the store
pub part_within : (o : Option (Range ℕ)) → IfSome o (λ r. (r.start ≤ r.end) × (r.end ≤ 6400)) → ((unwrap_or o nowhere).start ≤ (unwrap_or o nowhere).end) × ((unwrap_or o nowhere).end ≤ 6400)
part_within None h = (omega arith, omega arith)
part_within (Some r) h = h
