-- Every place stands in the row that owns it: 32 places stand in the rows, none twice, and there are no more. Assumes nothing.
use Prim.Native.Nat.{ℕ, zero, suc, ◌+◌, ◌<◌, ◌≤◌}
use native.Mathlib.Omega.{arith}
use native.Mathlib.Decide.{ℕ_discrete, dec_lt}
use mathlib.Core.Path.{◌≡◌, refl, sym, ap, ◌∙◌, subst}
use mathlib.Core.Logic.{◌≢◌, by_cases}
use mathlib.Core.List.{List, [], ◌∷◌, ◌++◌}
use mathlib.Core.Bool.{cond}
use borrow.Author.Tests.{eq-eqb, ne_eqb}
use lib.Dec.{eqb}
use lib.ListN.{length}
use Rattle.rows.specs.Words.{next, owner, head}
use Rattle.rows.specs.Rows.{NotIn, Run, Linked, total, row_of, SoundRows}

-- ---- sums over the numbers below n

sum : ℕ → (ℕ → ℕ) → ℕ
sum zero g = 0
sum (suc n) g = sum n g + g n

sum_add : (n : ℕ) (g h : ℕ → ℕ) → sum n (λ p. g p + h p) ≡ sum n g + sum n h
unfolding sum
sum_add zero g h = refl
sum_add (suc n) g h = omega (arith, sum_add n g h)

sum_zero : (n : ℕ) → sum n (λ p. 0) ≡ 0
unfolding sum
sum_zero zero = refl
sum_zero (suc n) = omega (arith, sum_zero n)

-- where no number is above 1 and they add up to n, each is 1
sum_full : (n : ℕ) (g : ℕ → ℕ) → ((p : ℕ) → p < n → g p ≤ 1) → sum n g ≤ n
unfolding sum
sum_full zero g h = omega arith
sum_full (suc n) g h = omega (arith, sum_full n g (λ p l. h p (omega arith)), h n (omega arith))

each_one : (n : ℕ) (g : ℕ → ℕ) → ((p : ℕ) → p < n → g p ≤ 1) → sum n g ≡ n → (p : ℕ) → p < n → g p ≡ 1
unfolding sum
each_one zero g h e p l = absurd (omega arith)
each_one (suc n) g h e p l =
    let a = sum_full n g (λ q k. h q (omega arith)) in
    let b = h n (omega arith) in
    by_cases (ℕ_discrete p n)
    (λ z. ap g z ∙ omega arith)
    (λ d. each_one n g (λ q k. h q (omega arith)) (omega arith) p (omega arith))

-- ---- how often a number stands in a list

one : ℕ → ℕ → ℕ
one p x = cond (eqb x p) 1 0

times : ℕ → List ℕ → ℕ
times p [] = 0
times p (x ∷ l) = one p x + times p l

one_same : (p : ℕ) → one p p ≡ 1
unfolding one
one_same p = rw (eq-eqb p p refl)

one_other : (p x : ℕ) → x ≢ p → one p x ≡ 0
unfolding one
one_other p x n = rw (ne_eqb x p n)

-- a number below n is one of those below n, and no other
sum_above : (n x : ℕ) → n ≤ x → sum n (λ p. one p x) ≡ 0
unfolding sum
sum_above zero x h = refl
sum_above (suc n) x h = omega (arith, sum_above n x (omega arith), one_other n x (omega arith))

sum_one : (n x : ℕ) → x < n → sum n (λ p. one p x) ≡ 1
unfolding sum
sum_one zero x h = absurd (omega arith)
sum_one (suc n) x h =
    by_cases (ℕ_discrete x n)
    (λ e. omega (arith, sum_above n x (omega arith), ap (one n) e ∙ one_same n))
    (λ d. omega (arith, sum_one n x (omega arith), one_other n x d))

-- ---- in a row

run_times : (m : List ℕ) (k h : ℕ) (l : List ℕ) → Run m k h l → sum 32 (λ p. times p l) ≡ length l
unfolding times
run_times m k h [] r = sum_zero 32
run_times m k h (p ∷ l) r = sum_add 32 (λ q. one q p) (λ q. times q l) ∙ omega (arith, sum_one 32 p r.1, run_times m k (next m p) l r.4)

not_in_times : (p : ℕ) (l : List ℕ) → NotIn p l → times p l ≡ 0
unfolding times
not_in_times p [] n = refl
not_in_times p (x ∷ l) n = omega (arith, one_other p x (λ z. n.0 (sym z)), not_in_times p l n.1)

-- a place stands once at most in a row, and only in the one that owns it
run_once : (m : List ℕ) (k h p : ℕ) (l : List ℕ) → Run m k h l → times p l ≤ 1
unfolding times
run_once m k h p [] r = omega arith
run_once m k h p (x ∷ l) r =
    by_cases (ℕ_discrete x p)
    (λ e. let z = subst (λ y. NotIn y l) e r.3 in omega (arith, not_in_times p l z, ap (one p) e ∙ one_same p))
    (λ d. omega (arith, one_other p x d, run_once m k (next m x) p l r.4))

run_owner : (m : List ℕ) (k h p : ℕ) (l : List ℕ) → Run m k h l → owner m p ≢ k → times p l ≡ 0
unfolding times
run_owner m k h p [] r n = refl
run_owner m k h p (x ∷ l) r n = omega (arith, one_other p x (λ z. n (ap (owner m) (sym z) ∙ r.2)), run_owner m k (next m x) p l r.4 n)

-- ---- in all rows

-- how often a place stands in the first n rows
often : ℕ → (ℕ → List ℕ) → ℕ → ℕ
often zero R p = 0
often (suc n) R p = often n R p + times p (R n)

module _ (m : List ℕ) (R : ℕ → List ℕ) (v : Linked m R) where
  often_sum : (n : ℕ) → n ≤ 67 → sum 32 (often n R) ≡ total n R
  unfolding often total
  often_sum zero h = sum_zero 32
  often_sum (suc n) h = sum_add 32 (often n R) (λ p. times p (R n)) ∙ omega (arith, often_sum n (omega arith), run_times m n (head m n) (R n) (v.row n h).run)

  -- only in the row that owns it
  often_none : (n p : ℕ) → n ≤ 67 → n ≤ owner m p → often n R p ≡ 0
  unfolding often
  often_none zero p h o = refl
  often_none (suc n) p h o = omega (arith, often_none n p (omega arith) (omega arith), run_owner m n (head m n) p (R n) (v.row n h).run (omega arith))

  often_one : (n p : ℕ) → n ≤ 67 → owner m p < n → often n R p ≡ times p (R (owner m p))
  unfolding often
  often_one zero p h o = absurd (omega arith)
  often_one (suc n) p h o =
      by_cases (ℕ_discrete (owner m p) n)
      (λ e. omega (arith, often_none n p (omega arith) (omega arith), ap (λ k. times p (R k)) e))
      (λ d. omega (arith, often_one n p (omega arith) (omega arith), run_owner m n (head m n) p (R n) (v.row n h).run d))

  often_once : (p : ℕ) → often 67 R p ≤ 1
  often_once p =
      let k = owner m p in
      by_cases (dec_lt k 67)
      (λ h. omega (arith, often_one 67 p (omega arith) h, run_once m k (head m k) p (R k) (v.row k h).run))
      (λ n. omega (arith, often_none 67 p (omega arith) (omega arith)))

-- where a number stands in a list, the list is parted there
split : (p : ℕ) (l : List ℕ) → times p l ≢ 0 → (a : List ℕ) × (b : List ℕ) × (l ≡ a ++ (p ∷ b))
unfolding times
split p [] n = absurd (n refl)
split p (x ∷ l) n =
    by_cases (ℕ_discrete x p)
    (λ e. ([], l, ap (λ y. y ∷ l) e))
    (λ d.
    let r = split p l (λ z. n (let w = one_other p x d in omega arith)) in
    (x ∷ r.0, r.1, ap (λ (o : List ℕ). x ∷ o) r.2))

-- place p stands in the row that owns it, after a and before b
pub record Stands (m : List ℕ) (p : ℕ) : Type 0 where
  pub row : owner m p < 67
  pub a : List ℕ
  pub b : List ℕ
  pub parted : row_of m (owner m p) ≡ a ++ (p ∷ b)

pub everywhere : (m : List ℕ) → SoundRows m → (p : ℕ) → p < 32 → Stands m p
everywhere m v p h =
    let R = row_of m in
    let l = v.linked in
    let e : often 67 R p ≡ 1 = each_one 32 (often 67 R) (λ q k. often_once m R l q) (often_sum m R l 67 (omega arith) ∙ v.every_place) p h in
    let k : owner m p < 67 = by_cases (dec_lt (owner m p) 67) (λ k. k) (λ n. absurd (omega (arith, often_none m R l 67 p (omega arith) (omega arith)))) in
    let s = split p (R (owner m p)) (λ z. let w = often_one m R l 67 p (omega arith) k in omega arith) in
    record { row = k; a = s.0; b = s.1; parted = s.2 }
