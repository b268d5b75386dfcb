-- The words of linked rows, and what each function makes of them: nested stores, no meaning. Assumes
-- nothing.
use Rattle.std.specs.Prelude.{ℕ, ◌+◌, ◌%◌, cond, List, Option, None, Some, get_or, set, ltb, eqb}

-- the place that a word names; from 32 on it names none
abbrev pub as_place : ℕ → Option ℕ
as_place n = cond (ltb n 32) (Some n) None

-- the place after p in its row; 32 or more after the last
abbrev pub next : List ℕ → ℕ → ℕ
next m p = get_or m p 0

-- the row that holds p; 255 while none does
abbrev pub owner : List ℕ → ℕ → ℕ
owner m p = get_or m (32 + p) 0

-- the first place of row k, 32 or more where it has none, and the last
abbrev pub head : List ℕ → ℕ → ℕ
head m k = get_or m (64 + k) 0

abbrev pub tail : List ℕ → ℕ → ℕ
tail m k = get_or m (131 + k) 0

-- p, the first of row k, is taken out
abbrev pub popped : List ℕ → ℕ → ℕ → List ℕ
popped m k p = set (set m (64 + k) (next m p)) (32 + p) 255

-- p becomes the last of row k
unfoldable pub put_last : List ℕ → ℕ → ℕ → List ℕ
put_last m k p =
    set (set (set (cond (ltb (head m k) 32) (set m (tail m k % 32) p) (set m (64 + k) p)) (131 + k) p) p 32) (32 + p) k

-- p becomes the first of row k
unfoldable pub put_first : List ℕ → ℕ → ℕ → List ℕ
put_first m k p =
    set (set (set (cond (ltb (head m k) 32) m (set m (131 + k) p)) (64 + k) p) p (head m k)) (32 + p) k

-- p, which follows q in row k, is taken out
unfoldable pub cut_after : List ℕ → ℕ → ℕ → ℕ → List ℕ
cut_after m k q p = set (set (cond (eqb (tail m k) p) (set m (131 + k) q) m) q (next m p)) (32 + p) 255

-- p is taken out of row k, by the place before it; None: it is the first
abbrev pub cut_out : List ℕ → ℕ → Option ℕ → ℕ → List ℕ
cut_out m k (Some q) p = cut_after m k q p
cut_out m k None p = popped m k p

-- the ticket at place p, by which a row is searched
abbrev pub ticket_at : List ℕ → ℕ → ℕ
ticket_at m p = get_or m (198 + p) 0
