-- The library's text of a number is ours, and stands where it is put. Assumes nothing.
use Rattle.std.proofs.Common.{◌≡◌, ℕ, ◌+◌, ◌*◌, ◌^◌, ◌/◌, ◌%◌, ◌≤◌, ◌<◌, List, [], ◌∷◌, ◌++◌, zero, suc, length, take, drop, refl, inl, inr, arith}
use Rattle.std.proofs.Math.Nat.{one-le-pow}
use Rattle.std.proofs.Math.Seq.{take-add}
use Rattle.std.proofs.lemmas.Bool.{cases_lt}
use Rattle.std.proofs.lemmas.Fmt.{decimal_digit, decimal_step}
use Rattle.std.proofs.lemmas.Grind.{common_steps}
use Rattle.std.proofs.lemmas.List.{take_at}
use Rattle.std.specs.Fmt as fmt
use Rattle.answers.specs.Answer.{digits, place_from, places, decimal}

length_digits : (k n : ℕ) → length (digits k n) ≡ k
unfolding digits
length_digits zero n = refl
length_digits (suc k) n = grind (arith, common_steps, length_digits k (n / 10))

-- ---- the library's text is ours

-- a number below 10 has one place
pub one_place : (n : ℕ) → n < 10 → places n ≡ 1
unfolding places place_from
one_place n h = grind (arith, common_steps)

-- any other has one more than its tenth
one_more_place : (n : ℕ) → 10 ≤ n → n < 2 ^ 32 → places n ≡ suc (places (n / 10))
unfolding places place_from
one_more_place n least below = grind (arith, common_steps)

-- the logarithm to the base 10, and one
pub places_by_log : (k n : ℕ) → 10 ^ k ≤ n → n < 10 * 10 ^ k → n < 2 ^ 32 → places n ≡ k + 1
places_by_log zero n least most below = one_place n (omega arith)
places_by_log (suc k) n least most below =
    let power : 1 ≤ 10 ^ k = one-le-pow k 10 (omega arith) in
    grind (arith, common_steps, one_more_place n (omega (arith, power)) below, places_by_log k (n / 10) (omega arith) (omega arith) (omega arith))

one_digit : (n : ℕ) → n < 10 → fmt.decimal n ≡ decimal n
unfolding decimal digits
one_digit n h = rw (one_place n h, decimal_digit n h) grind (arith, common_steps)

one_more_digit : (n : ℕ) → 10 ≤ n → n < 2 ^ 32 → decimal (n / 10) ++ ((48 + n % 10) ∷ []) ≡ decimal n
unfolding decimal digits
one_more_digit n least below = rw (one_more_place n least below) refl

same_text_to : (most n : ℕ) → n ≤ most → n < 2 ^ 32 → fmt.decimal n ≡ decimal n
same_text_to zero n h below = one_digit n (omega arith)
same_text_to (suc most) n h below =
    elim (cases_lt n 10) [
      | inl small ↦ one_digit n small
      | inr large ↦ rw (decimal_step n large (omega arith), same_text_to most (n / 10) (omega arith) (omega arith)) (one_more_digit n large below)
    ]

same_text : (n : ℕ) → n < 2 ^ 32 → fmt.decimal n ≡ decimal n
same_text n below = same_text_to n n (omega arith) below

-- ---- where it is put: n's text as a number m of 64 bits, in k places

same_length : (k n m : ℕ) → n < 2 ^ 32 → k ≡ places n → m ≡ n → length (fmt.decimal m) ≡ k
unfolding decimal
same_length k n m below e f = rw (f, e, same_text n below) (length_digits (places n) n)

pub has_room : (k n m : ℕ) → n < 2 ^ 32 → k ≡ places n → m ≡ n → length (fmt.decimal m) ≤ k
has_room k n m below e f = omega (arith, same_length k n m below e f)

-- behind the first `at` bytes
pub put_in : (l l' rest : List ℕ) (at k start n m : ℕ) → n < 2 ^ 32 → k ≡ places n → k ≤ 10 → m ≡ n → start + length (fmt.decimal m) ≡ at + k → drop start l' ≡ fmt.decimal m ++ rest → take start l' ≡ take start l → (take (at + k) l' ≡ take at l ++ decimal n) × (length (decimal n) ≤ 10)
put_in l l' rest at k start n m below e short f starts written before =
    let long : length (fmt.decimal m) ≡ k = same_length k n m below e f in
    let same : start ≡ at = omega (arith, long) in
    let counted : length (decimal n) ≡ k = rw (← same_text n below, ← f) long in
    let text : drop at l' ≡ decimal n ++ rest = rw (← same, ← same_text n below, ← f) written in
    let kept : take at l' ≡ take at l = rw (← same) before in
    (rw (take-add at k l', kept, text, take_at (decimal n) rest k counted) refl, omega (arith, counted))
