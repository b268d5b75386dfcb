-- The text of a line: its fields, decimal numbers, and hex digits. A byte is a number, and these are ASCII. Assumes nothing.
use Rattle.std.specs.Prelude.{Bool, true, ◌&&◌, ◌||◌, List, [], ◌∷◌, ℕ, ◌+◌, ◌*◌, ◌-◌, ◌%◌, Option, Some, None, option_and_then, length, if◌then◌else◌}
use Rattle.board.specs.Plain.{◌=?◌, ◌≤?◌}

-- ---- fields, parted by tabs

abbrev pub tab : ℕ
tab = 9

-- c before the first of some texts
unfoldable pub onto : ℕ → List (List ℕ) → List (List ℕ)
onto c [] = (c ∷ []) ∷ []
onto c (f ∷ fs) = (c ∷ f) ∷ fs

-- the fields of a line: one more than it has tabs
unfoldable pub fields : List ℕ → List (List ℕ)
fields [] = [] ∷ []
fields (c ∷ cs) = if c =? tab then [] ∷ fields cs else onto c (fields cs)

-- ---- decimal numbers, 0 to 4294967295, no leading zeros

-- 0 to 9
abbrev pub is_digit : ℕ → Bool
is_digit c = 48 ≤? c && c ≤? 57

-- the number with n's digits and then this one; none at a byte that is no digit, and none above 4294967295
abbrev pub with_digit : ℕ → ℕ → Option ℕ
with_digit n c = if is_digit c && (n * 10 + (c - 48) ≤? 4294967295) then Some (n * 10 + (c - 48)) else None

-- the number with n's digits and then these
unfoldable pub more : ℕ → List ℕ → Option ℕ
more n [] = Some n
more n (c ∷ cs) = option_and_then (λ m. more m cs) (with_digit n c)

-- a zero stands alone
unfoldable pub number : List ℕ → Option ℕ
number [] = None
number (c ∷ []) = more 0 (c ∷ [])
number (c ∷ d ∷ ds) = if c =? 48 then None else more 0 (c ∷ d ∷ ds)

-- ---- hex digits, upper-case, two to a byte

-- 0 to 9, A to F
abbrev pub is_hex : ℕ → Bool
is_hex c = (48 ≤? c && c ≤? 57) || (65 ≤? c && c ≤? 70)

-- the value of a hex digit (0 for any other byte)
unfoldable pub hex_value : ℕ → ℕ
hex_value c = if 48 ≤? c && c ≤? 57 then c - 48 else if 65 ≤? c && c ≤? 70 then 10 + (c - 65) else 0

-- every byte is a hex digit
unfoldable pub all_hex : List ℕ → Bool
all_hex [] = true
all_hex (c ∷ cs) = is_hex c && all_hex cs

-- two hex digits for each byte
unfoldable pub are_bytes : List ℕ → Bool
are_bytes f = length f % 2 =? 0 && all_hex f

-- the bytes that the digits make
unfoldable pub bytes : List ℕ → List ℕ
bytes [] = []
bytes (a ∷ []) = []
bytes (a ∷ b ∷ rest) = (hex_value a * 16 + hex_value b) ∷ bytes rest

-- a code: one byte
unfoldable pub code : List ℕ → Option ℕ
code [] = None
code (a ∷ []) = None
code (a ∷ b ∷ []) = if is_hex a && is_hex b then Some (hex_value a * 16 + hex_value b) else None
code (a ∷ b ∷ c ∷ cs) = None
