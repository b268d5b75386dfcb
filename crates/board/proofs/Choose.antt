-- Choices and tests: what a test that passed or failed tells. Assumes nothing.
use Rattle.std.specs.Prelude.{if◌then◌else◌, None, Some}
use mathlib.Core.Path.{◌≡◌, refl, sym, ap, subst}
use mathlib.Core.Logic.{◌≢◌}
use mathlib.Core.Bool.{Bool, true, false, not, ◌||◌, ◌&&◌}
use Prim.Native.Nat.{ℕ, ◌≤◌, ◌<◌}
use native.Mathlib.Omega.{arith}
use lib.Dec.{T, eqb, eqb→eq, eqb_refl, T_not, ltb→lt, nltb→le, leb→le, nleb→lt}
use Rattle.board.specs.Types.{Ticket, Unit}
use Rattle.board.specs.Plain.{◌=?◌, ◌<?◌, ◌≤?◌}
use Rattle.board.specs.Board.{the_unit, the_ticket, same_unit, at}

-- to show something of a choice, show it of each side, with what the test says there
pub if_ind : {A : Type 0} (P : A → Type 0) (c : Bool) (x y : A) → (c ≡ true → P x) → (c ≡ false → P y) → P (if c then x else y)
if_ind P true x y f g = f refl
if_ind P false x y f g = g refl

-- to show something, show it where a test passes and where it fails
pub by_cases : {P : Type 0} (c : Bool) → (c ≡ true → P) → (c ≡ false → P) → P
by_cases true f g = f refl
by_cases false f g = g refl

-- two choices by one test
pub both_ifs : {A B : Type 0} (P : A → B → Type 0) (c : Bool) (x y : A) (z w : B) → P x z → P y w → P (if c then x else y) (if c then z else w)
both_ifs P true x y z w f g = f
both_ifs P false x y z w f g = g

pub true≢false : {A : Type 0} → true ≡ false → A
true≢false e = let z : ◌≡◌ {A = ℕ} 0 1 = cc in absurd (omega arith)

pub none≢some : {A B : Type 0} {x : A} → None ≡ Some x → B
none≢some e = let z : ◌≡◌ {A = ℕ} 0 1 = cc in absurd (omega arith)

pub is_true : {c : Bool} → c ≡ true → T c
is_true e = subst T (sym e) tt

pub is_false : {c : Bool} → c ≡ false → T (not c)
is_false e = subst (λ b. T (not b)) (sym e) tt

pub true_is : (c : Bool) → T c → c ≡ true
true_is true t = refl
true_is false t = absurd t

-- a test that leads to its own failure failed
pub refute : (c : Bool) → (c ≡ true → c ≡ false) → c ≡ false
refute true f = f refl
refute false f = refl

pub neither : (a b : Bool) → (a || b) ≡ false → (a ≡ false) × (b ≡ false)
neither true b e = true≢false e
neither false b e = (refl, e)

pub or_swap : (a b c : Bool) → (a || (b || c)) ≡ (b || (a || c))
or_swap true true c = refl
or_swap true false c = refl
or_swap false b c = refl

pub both : (a b : Bool) → (a && b) ≡ true → (a ≡ true) × (b ≡ true)
both true b e = (refl, e)
both false b e = true≢false (sym e)

pub not-true : (c : Bool) → not c ≡ true → c ≡ false
not-true true e = sym e
not-true false e = refl

-- ---- tests on numbers

pub same : {m n : ℕ} → (m =? n) ≡ true → m ≡ n
same {m} {n} e = eqb→eq m n (is_true e)

pub differ : {m n : ℕ} → (m =? n) ≡ false → m ≢ n
differ {m} {n} e k = T_not (eqb m n) (is_false e) (subst (λ x. T (eqb m x)) k (eqb_refl m))

pub itself : (n : ℕ) → (n =? n) ≡ true
itself n = true_is (eqb n n) (eqb_refl n)

pub below : {m n : ℕ} → (m <? n) ≡ true → m < n
below {m} {n} e = ltb→lt m n (is_true e)

pub not_below : {m n : ℕ} → (m <? n) ≡ false → n ≤ m
not_below {m} {n} e = nltb→le m n (is_false e)

pub when_below : {m n : ℕ} → m < n → (m <? n) ≡ true
when_below {m} {n} h = by_cases (m <? n) (λ e. e) (λ e. let p : n ≤ m = not_below e in absurd (omega arith))

pub unless_below : {m n : ℕ} → n ≤ m → (m <? n) ≡ false
unless_below {m} {n} h = refute (m <? n) (λ e. let p : m < n = below e in absurd (omega arith))

pub at_most : {m n : ℕ} → (m ≤? n) ≡ true → m ≤ n
at_most {m} {n} e = leb→le m n (is_true e)

pub not_at_most : {m n : ℕ} → (m ≤? n) ≡ false → n < m
not_at_most {m} {n} e = nleb→lt m n (is_false e)

pub when_at_most : {m n : ℕ} → m ≤ n → (m ≤? n) ≡ true
when_at_most {m} {n} h = by_cases (m ≤? n) (λ e. e) (λ e. let p : n < m = not_at_most e in absurd (omega arith))

pub unless_at_most : {m n : ℕ} → n < m → (m ≤? n) ≡ false
unless_at_most {m} {n} h = refute (m ≤? n) (λ e. let p : m ≤ n = at_most e in absurd (omega arith))

-- ---- units and tickets

pub one_unit : {u v : Unit} → u.0 ≡ v.0 → u ≡ v
one_unit e = ap the_unit e

pub one_ticket : {s t : Ticket} → s.0 ≡ t.0 → s ≡ t
one_ticket e = ap the_ticket e

pub at_same : {A : Type 0} (u : Unit) (x : A) (f : Unit → A) → at u x f u ≡ x
at_same u x f = rw (itself u.0)

pub at_other : {A : Type 0} (u v : Unit) (x : A) (f : Unit → A) → v ≢ u → at u x f v ≡ f v
at_other u v x f n = if_ind (λ y. y ≡ f v) (same_unit v u) x (f v) (λ e. absurd (n (one_unit (same e)))) (λ e. refl)
