-- The line that answers a record. A byte is a number, and these are ASCII. Assumes nothing.
use Rattle.std.specs.Prelude.{Result, Ok, Err, ◌≡◌, List, [], ◌∷◌, ◌++◌, ℕ, zero, suc, ◌+◌, ◌-◌, ◌/◌, ◌%◌, ℤ, pos, negsuc, if◌then◌else◌}
use Rattle.board.specs.Plain.{◌=?◌, ◌<?◌, ◌≤?◌}
use Rattle.board.specs.declared.NoSuchUnit.{NoSuchUnit}
use Rattle.board.specs.Answers.{Answer, unit_number, refused, taken, sent, nothing, done, before, time, first, empty, handed}
use Rattle.answers.specs.Letters.{S}

-- ---- fields

-- the last k digits of n
unfoldable pub digits : (k n : ℕ) → List ℕ
digits zero n = []
digits (suc k) n = digits k (n / 10) ++ ((48 + n % 10) ∷ [])

-- one place more from this number on
unfoldable pub place_from : (least n : ℕ) → ℕ
place_from least n = if least ≤? n then 1 else 0

-- how many digits a number of 32 bits has
unfoldable pub places : ℕ → ℕ
places n =
    1
    + place_from 10 n
    + place_from 100 n
    + place_from 1000 n
    + place_from 10000 n
    + place_from 100000 n
    + place_from 1000000 n
    + place_from 10000000 n
    + place_from 100000000 n
    + place_from 1000000000 n

-- decimal, no leading zeros, of a number of 32 bits
unfoldable pub decimal : ℕ → List ℕ
decimal n = digits (places n) n

-- a number below zero has a minus sign
unfoldable pub signed : ℤ → List ℕ
signed (pos n) = decimal n
signed (negsuc n) = 45 ∷ decimal (suc n)

-- 0 to 9, A to F
unfoldable pub hex_digit : ℕ → ℕ
hex_digit d = if d <? 10 then 48 + d else 65 + (d - 10)

-- a code, a number of one byte: two upper-case hex digits
unfoldable pub hex : ℕ → List ℕ
hex n = hex_digit (n / 16) ∷ hex_digit (n % 16) ∷ []

-- a refusal: below 100 two hex digits, else decimal
unfoldable pub refusal : ℕ → List ℕ
refusal n = if n <? 100 then hex n else decimal n

-- ---- lines

-- the fields of an answer, after the letter that it repeats
abbrev pub said : (letter : ℕ) → Answer → List (List ℕ)
-- S: status and ticket, 0 if refused; any other: the refusal
said letter (refused n) = if letter =? S then hex n ∷ decimal 0 ∷ [] else refusal n ∷ []
said letter (taken t) = hex 0x00 ∷ decimal t.0 ∷ []
-- N: ticket, unit, looked; for "nothing", - and looked
said letter (sent t u cdb looked) = decimal t.0 ∷ decimal u.0 ∷ decimal looked ∷ []
said letter (nothing looked) = (45 ∷ []) ∷ decimal looked ∷ []
-- E, A and B: 0
said letter done = decimal 0 ∷ []
-- F and R: 1 if it was frozen before, else 0
said letter (before n) = decimal n ∷ []
-- T: the clock
said letter (time clock) = decimal clock ∷ []
-- no record asks for a look at the finished line
said letter (first t address callback wanted) = []
said letter empty = []
-- H: ticket, status, SCSI status, autosense residual, residual
said letter (handed t x) = decimal t.0 ∷ hex x.status ∷ hex x.scsi ∷ decimal x.unsensed ∷ signed x.residual ∷ []

-- each field after a tab, and then the line feed
abbrev pub after_tabs : List (List ℕ) → List ℕ
after_tabs [] = 10 ∷ []
after_tabs (f ∷ fs) = (9 ∷ f) ++ after_tabs fs

-- the answer to a record that begins with the letter
abbrev pub print : (letter : ℕ) → Answer → List ℕ
print letter a = letter ∷ after_tabs (said letter a)

-- the line that answers a freeze or a release: what was before is any value that stands for a number, a bool (then it is the line of
-- `freezing_says`, by `prints_bool`) or the number itself
abbrev pub PrintsBefore : {B : Type 0} → (stands_for : B → ℕ → Type 0) → (letter : ℕ) → Result B NoSuchUnit → (text : List ℕ) → Type 0
PrintsBefore stands_for letter (Ok b) text = (n : ℕ) × stands_for b n × (text ≡ print letter (before n))
PrintsBefore stands_for letter (Err why) text = text ≡ print letter (refused (unit_number why))

-- the answer to a line that is not of the form: ?
abbrev pub unclear : List ℕ
unclear = 63 ∷ 10 ∷ []

-- the first line of all: board, tab, 1
abbrev pub head : List ℕ
head = 98 ∷ 111 ∷ 97 ∷ 114 ∷ 100 ∷ 9 ∷ 49 ∷ 10 ∷ []
