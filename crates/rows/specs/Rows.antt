-- What it is that words hold rows of places. Assumes nothing.
use Rattle.std.specs.Prelude.{ℕ, zero, suc, ◌+◌, ◌<◌, ◌≤◌, ◌≡◌, ◌≢◌, cond, List, [], ◌∷◌, length, ltb, eqb}
use Rattle.rows.specs.Words.{next, owner, head, tail}

abbrev pub NotIn : ℕ → List ℕ → Type 0
NotIn p [] = Unit {0}
NotIn p (q ∷ l) = (p ≢ q) × NotIn p l

-- from h the links lead through the places l, once each, all held by row k, and end
abbrev pub Run : List ℕ → ℕ → ℕ → List ℕ → Type 0
Run m k h [] = 32 ≤ h
Run m k h (p ∷ l) = (h ≡ p) × (p < 32) × (owner m p ≡ k) × NotIn p l × Run m k (next m p) l

-- t is the last of l, where l has one
abbrev pub Last : ℕ → List ℕ → Type 0
Last t [] = Unit {0}
Last t (p ∷ []) = t ≡ p
Last t (p ∷ (q ∷ l)) = Last t (q ∷ l)

-- row k of the words is l
pub record Row (m : List ℕ) (k : ℕ) (l : List ℕ) : Type 0 where
  pub run : Run m k (head m k) l
  pub last : Last (tail m k) l

-- the rows of the words are R
pub record Linked (m : List ℕ) (R : ℕ → List ℕ) : Type 0 where
  pub size : length m ≡ 838
  pub row : (k : ℕ) → k < 67 → Row m k (R k)

-- the rows, one of them changed
abbrev pub put : ℕ → List ℕ → (ℕ → List ℕ) → ℕ → List ℕ
put k l R j = cond (eqb j k) l (R j)

-- how many places the first n rows have
unfoldable pub total : ℕ → (ℕ → List ℕ) → ℕ
total zero R = 0
total (suc n) R = total n R + length (R n)

-- the places that the links lead through from h, at most `fuel`
unfoldable pub walk : ℕ → List ℕ → ℕ → List ℕ
walk zero m h = []
walk (suc fuel) m h = let more = h ∷ walk fuel m (next m h) in cond (ltb h 32) more []

-- row k, as the links have it
unfoldable pub row_of : List ℕ → ℕ → List ℕ
row_of m k = walk 32 m (head m k)

-- the rows are sound, and hold every place
pub record SoundRows (m : List ℕ) : Type 0 where
  pub linked : Linked m (row_of m)
  pub every_place : total 67 (row_of m) ≡ 32

-- every place is in row 0, and the other rows are empty
pub record Begun (m : List ℕ) : Type 0 where
  pub sound : SoundRows m
  pub empty : (k : ℕ) → k < 67 → k ≢ 0 → row_of m k ≡ []
