-- What is written to a block and what is not; the CDB's words are its bytes; two's complement there and back. Assumes nothing.
use mathlib.Core.Path.{◌≡◌, refl, ap}
use mathlib.Core.Logic.{◌≢◌}
use mathlib.Core.List.{List, [], ◌∷◌}
use Prim.Native.Nat.{ℕ, zero, suc, ◌+◌, ◌*◌, ◌-◌, ◌/◌, ◌%◌, ◌^◌, ◌≤◌, ◌<◌}
use native.Mathlib.Omega.{arith}
use lib.ListN.{length, length-set, get_or, take, drop, set}
use lib.Seq.{get_or-set_other, drop-cons}
use lib.IntN.{pos, negsuc}
use Rattle.board.specs.Types.{Told}
use Rattle.board.specs.Plain.{◌<?◌}
use Rattle.board.specs.Block.{byte, bytes4, word, signed, fields, cdb_bytes, with_status, with_told}
use Rattle.board.specs.Written.{Written}
use Rattle.board.proofs.Choose.{if_ind, when_below, unless_below}

-- ---- what is written

-- taking in writes no byte but 7, and the length stays
pub status_others : (n : ℕ) (s : List ℕ) (i : ℕ) → i ≢ 7 → byte i (with_status n s) ≡ byte i s
unfolding with_status
status_others n s i h = if_ind (λ l. byte i l ≡ byte i s) (length s <? 8) s (set s 7 n) (λ e. refl) (λ e. rw get_or-set_other)

pub status_length : (n : ℕ) (s : List ℕ) → length (with_status n s) ≡ length s
unfolding with_status
status_length n s = if_ind (λ l. length l ≡ length s) (length s <? 8) s (set s 7 n) (λ e. refl) (λ e. simp length-set)

-- a hand-back writes bytes 7, 52, 53 and 56 to 59 and no others, and the length stays
pub told_others : (x : Told) (s : List ℕ) (i : ℕ) → i ≢ 7 → i ≢ 52 → i ≢ 53 → i ≢ 56 → i ≢ 57 → i ≢ 58 → i ≢ 59
    → byte i (with_told x s) ≡ byte i s
unfolding with_told bytes4
told_others x s i h7 h52 h53 h56 h57 h58 h59 = rw (get_or-set_other, get_or-set_other, get_or-set_other, get_or-set_other, get_or-set_other, get_or-set_other, get_or-set_other)

pub told_length : (x : Told) (s : List ℕ) → length (with_told x s) ≡ length s
unfolding with_told bytes4
told_length x s = simp length-set

-- ---- the 12 CDB bytes as accepted

-- a number of four digits to the base 256 has these digits
pub digits : (a b c d : ℕ) → a < 256 → b < 256 → c < 256 → d < 256 → bytes4 (a + 256 * b + 65536 * (c + 256 * d)) ≡ a ∷ b ∷ c ∷ d ∷ []
unfolding bytes4
digits a b c d ha hb hc hd =
    let n = a + 256 * b + 65536 * (c + 256 * d) in
    let q1 : n / 256 ≡ b + 256 * (c + 256 * d) = omega arith in
    let q2 : n / 65536 ≡ c + 256 * d = omega arith in
    let q3 : n / 16777216 ≡ d = omega arith in
    let e0 : n % 256 ≡ a = omega arith in
    let e1 : (b + 256 * (c + 256 * d)) % 256 ≡ b = omega arith in
    let e2 : (c + 256 * d) % 256 ≡ c = omega arith in
    let e3 : d % 256 ≡ d = omega arith in
    rw (q1, q2, q3, e0, e1, e2, e3)

-- n elements from i on, one by one
abbrev listed : ℕ → ℕ → List ℕ → List ℕ
listed zero i s = []
listed (suc n) i s = get_or s i 0 ∷ listed n (suc i) s

part_listed : (n i : ℕ) (s : List ℕ) → i + n ≤ length s → take n (drop i s) ≡ listed n i s
part_listed zero i s h = refl
part_listed (suc n) i s h = rw (drop-cons s i 0 (omega arith)) (ap (λ (l : List ℕ). get_or s i 0 ∷ l) (part_listed n (suc i) s (omega arith)))

-- they are bytes 60 to 71 of the block, where those are bytes
pub cdb_as_accepted : (s : List ℕ) → 72 ≤ length s → ((i : ℕ) → byte i s < 256) → cdb_bytes (fields s).cdb ≡ take 12 (drop 60 s)
unfolding cdb_bytes fields
cdb_as_accepted s h b =
    rw (digits _ _ _ _ (b 60) (b 61) (b 62) (b 63), digits _ _ _ _ (b 64) (b 65) (b 66) (b 67), digits _ _ _ _ (b 68) (b 69) (b 70) (b 71), part_listed 12 60 s (omega arith))

-- ---- two's complement

-- a number of 32 bits with its sign is what its word stands for
pub signed_word : (n : ℕ) → n < 2 ^ 31 → signed (word (pos n)) ≡ pos n
unfolding signed word
signed_word n h = rw (when_below h)

pub signed_word_below_zero : (n : ℕ) → n < 2 ^ 31 → signed (word (negsuc n)) ≡ negsuc n
unfolding signed word
signed_word_below_zero n h =
    let p : 2 ^ 32 - suc (2 ^ 32 - suc n) ≡ n = omega arith in
    rw (unless_below {m = 2 ^ 32 - suc n} {n = 2 ^ 31} (omega arith), p)

pub written : Written
written = record {
  status_others = status_others;
  status_length = status_length;
  told_others = told_others;
  told_length = told_length;
  cdb_as_accepted = cdb_as_accepted;
  signed_word = signed_word;
  signed_word_below_zero = signed_word_below_zero;
}
