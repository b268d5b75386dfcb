-- The few plain things that the other files are written with: tests on numbers, a table of which the first row that applies
-- counts, and what can be said of a list element by element. (The choice by a test is the library's.) Assumes nothing.
use Rattle.std.specs.Prelude.{Bool, false, ◌||◌, List, [], ◌∷◌, ℕ, ◌+◌, eqb, ltb, leb, if◌then◌else◌}

infix 50 ◌=?◌ ◌<?◌ ◌≤?◌
abbrev pub ◌=?◌ : ℕ → ℕ → Bool
m =? n = eqb m n

abbrev pub ◌<?◌ : ℕ → ℕ → Bool
m <? n = ltb m n

abbrev pub ◌≤?◌ : ℕ → ℕ → Bool
m ≤? n = leb m n

-- a row of a table: where the test passes, what follows
infix 20 ◌⇒◌
pub data Row (A : Type 0) : Type 0 where
  ◌⇒◌ : Bool → A → Row A

-- what the first row that applies says; where none does, what is said otherwise
unfoldable pub first_that_applies : {A : Type 0} → List (Row A) → (otherwise : A) → A
first_that_applies [] otherwise = otherwise
first_that_applies ((test ⇒ x) ∷ rows) otherwise = if test then x else first_that_applies rows otherwise

-- an element of the list passes the test
unfoldable pub any : {A : Type 0} → (A → Bool) → List A → Bool
any test [] = false
any test (x ∷ xs) = test x || any test xs

-- how many elements of the list pass the test
unfoldable pub count : {A : Type 0} → (A → Bool) → List A → ℕ
count test [] = 0
count test (x ∷ xs) = (if test x then 1 else 0) + count test xs

-- each element of the list has the property (`Unit {0}` is the prelude's type with one element, and no unit of the board)
unfoldable pub Each : {A : Type 0} → (A → Type 0) → List A → Type 0
Each P [] = Unit {0}
Each P (x ∷ xs) = P x × Each P xs
