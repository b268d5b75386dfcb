-- What a search for a line feed tells of a buffer. Assumes nothing.
use Prim.Native.Nat.{ℕ, ◌+◌, ◌-◌, ◌≤◌, ◌<◌}
use native.Mathlib.Omega.{arith}
use mathlib.Core.Path.{◌≡◌, ap, sym, ◌∙◌, subst}
use mathlib.Core.List.{List}
use lib.ListN.{length, get_or, drop, length-drop}
use lib.Seq.{get_or-drop}
use Rattle.std.specs.Prelude.{Option, Some, None, slice_range}
use Rattle.std.proofs.lemmas.Slice.{between_to_end}
use Rattle.board.proofs.Choose.{same}
use Rattle.memchr.specs.Find.{IsFirstByte, is_byte}
use Rattle.feed.specs.LineEnds.{Clear}

-- a byte seen from a on
from : (s : List ℕ) (a k : ℕ) → a ≤ k → get_or (drop a s) (k - a) 0 ≡ get_or s k 0
from s a k h = let e : a + (k - a) ≡ k = omega arith in get_or-drop a s (k - a) 0 ∙ ap (λ (n : ℕ). get_or s n 0) e

-- what a search from a on found
abbrev Found : (s : List ℕ) (a : ℕ) → Option ℕ → Type 0
Found s a r = IsFirstByte (is_byte 10) (slice_range s a (length s)) r

behind : (s : List ℕ) (a : ℕ) (r : Option ℕ) → Found s a r → IsFirstByte (is_byte 10) (drop a s) r
behind s a r h = subst (λ (l : List ℕ). IsFirstByte (is_byte 10) l r) (between_to_end s a (length s) (omega arith)) h

-- a line feed n bytes further
pub line_clear : (s : List ℕ) (a n : ℕ) → Found s a (Some n) → Clear s a (a + n)
line_clear s a n g = let h = behind s a (Some n) g in record { clear = λ k l m z. h.0.before (k - a) (omega arith) (omega arith) (ap (is_byte 10) (from s a k l ∙ z)) }

pub line_within : (s : List ℕ) (a n : ℕ) → Found s a (Some n) → a + n < length s
line_within s a n g = let h = behind s a (Some n) g in let d = length-drop a s in let l = h.0.high in omega arith

pub line_here : (s : List ℕ) (a n : ℕ) → Found s a (Some n) → get_or s (a + n) 0 ≡ 10
line_here s a n g = let h = behind s a (Some n) g in sym (get_or-drop a s n 0) ∙ same h.1

-- none
pub rest_clear : (s : List ℕ) (a : ℕ) → Found s a None → Clear s a (length s)
rest_clear s a g = record { clear = λ k l m z. behind s a None g (k - a) (omega arith) (let d = length-drop a s in omega arith) (ap (is_byte 10) (from s a k l ∙ z)) }
