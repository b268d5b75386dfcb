-- The library's ways with numbers are the board's: signed ones, four bytes in a row, one bit of a byte. Assumes nothing.
use mathlib.Core.Path.{◌≡◌, refl}
use mathlib.Core.Bool.{not, ◌||◌}
use mathlib.Core.List.{List, append_assoc}
use Prim.Native.Nat.{ℕ, zero, suc, ◌<◌, ◌*◌, ◌+◌, ◌/◌, ◌%◌, ◌^◌, ◌≤◌}
use native.Mathlib.Omega.{arith}
use borrow.Author.Tests.{ne_eqb}
use borrow.Rule.Slice.PartMut.{put_mid}
use lib.IntN.{ℤ, pos, negsuc}
use lib.ListN.{length}
use lib.Seq.{drop-drop}
use mir.Syntax.{w32}
use mir.Val.{of_z, to_z}
use Rattle.std.specs.Int.{IsPowerOfTwo, bit_at}
use Rattle.std.specs.Int.Bits.{bit_and}
use Rattle.std.proofs.lemmas.List.Edits.{sets, sets-eq}
use Rattle.std.proofs.lemmas.Nat.{pow_pos}
use Rattle.std.proofs.lemmas.Nat.Bits.{and_pow, bit_at-lt}
use Rattle.board.specs.Plain.{◌=?◌}
use Rattle.board.specs.Block.{word, signed}

pub word_is : (z : ℤ) → of_z w32 z ≡ word z
unfolding word
word_is (pos n) = refl
word_is (negsuc n) = refl

pub signed_is : (n : ℕ) → to_z w32 n ≡ signed n
unfolding signed
signed_is n = refl

-- four bytes written one by one, or as a part
pub part_written : (s ys : List ℕ) (i : ℕ) → length ys ≡ 4 → i + 4 ≤ length s → put_mid i 4 s ys ≡ sets s i ys
part_written s ys i n h = rw (sets-eq ys s i (rw n h), n, append_assoc, drop-drop) refl

-- a number below two, once more by a positive one
bit_up : (b n : ℕ) → b < 2 → 0 < n → not (b * n =? 0) ≡ (b =? 1)
bit_up zero n h k = let z : 0 * n ≡ 0 = omega arith in rw z refl
bit_up (suc zero) n h k = let o : 1 * n ≡ n = omega arith in rw (o, ne_eqb n 0 (λ e. absurd (omega (arith, e)))) refl
bit_up (suc (suc b)) n h k = absurd (omega arith)

-- the bit of such a value, masked or divided for
pub flag_is : (x n : ℕ) → IsPowerOfTwo n → not (bit_and x n =? 0) ≡ (x / n % 2 =? 1)
flag_is x n (k, e) = rw (e, and_pow x k) (bit_up (bit_at x k) (2 ^ k) (bit_at-lt x k) (pow_pos k))

-- the flags of byte 12 that ask for what is not provided: scatter/gather, tag queue action, linked, CDB pointer
pub refused_flags : (x : ℕ) → (x / 16 % 2 =? 1 || x / 2 % 2 =? 1 || x / 4 % 2 =? 1 || x / 1 % 2 =? 1)
    ≡ (not (bit_and x 16 =? 0) || not (bit_and x 2 =? 0) || not (bit_and x 4 =? 0) || not (bit_and x 1 =? 0))
refused_flags x = rw (flag_is x 16 (4, refl), flag_is x 2 (1, refl), flag_is x 4 (2, refl), flag_is x 1 (0, refl)) refl
