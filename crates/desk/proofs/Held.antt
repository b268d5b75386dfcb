-- Which addresses are held and how many places are live, on the words: the plane of addresses is the board's check 9, the free row its
-- check 11. Assumes nothing.
use Rattle.std.specs.Prelude.{None, Some}
use Rattle.std.proofs.Common.{◌≡◌, ℕ, zero, suc, ◌+◌, ◌-◌, ◌<◌, ◌≤◌, Bool, true, false, not, ◌&&◌, ◌||◌, eqb, ◌≢◌, ◌⊎◌, List, [], ◌∷◌, ◌++◌, map, length, sym, refl, ap, ◌∙◌, subst, inl, inr, arith, length-append, eq-eqb, ne_eqb, eqb-true}
use native.Mathlib.Decide.{ℕ_discrete}
use mathlib.Core.Logic.{by_cases}
use borrow.Author.Tests.{eqb-false}
use lib.ListN.{length-map}
use Rattle.board.specs.declared.Unit.{Unit}
use Rattle.board.specs.declared.Request.{Request}
use Rattle.board.specs.Plain.{◌=?◌, any}
use Rattle.board.specs.Board.{the_unit, units, of_units, places, live}
use Rattle.board.specs.TakingIn.{address_held}
use Rattle.board.proofs.Choose.{true≢false, both, not-true}
use Rattle.rows.specs.Words.{next, owner, head, as_place}
use Rattle.rows.specs.Rows.{Run, total, row_of}
use Rattle.rows.proofs.Shown.{run_of}
use Rattle.rows.proofs.Everywhere.{everywhere}
use Rattle.desk.specs.Words.{address_at}
use Rattle.desk.specs.View.{request_at, active_at, finished_at, Rest, view, Valid}
use Rattle.desk.specs.TakingIn.{held_to}
use Rattle.desk.proofs.Sought.{row_first, row_empty}
use Rattle.desk.proofs.Views.{waiting_on}

-- ---- tests that are the same, or pass on either side

-- tests that pass together are the same
same_test : (c d : Bool) → (c ≡ true → d ≡ true) → (d ≡ true → c ≡ true) → c ≡ d
same_test true d f g = sym (f refl)
same_test false true f g = g refl
same_test false false f g = refl

-- one of the two passes
or_left : (c d : Bool) → c ≡ true → (c || d) ≡ true
or_left true d e = refl
or_left false d e = true≢false (sym e)

or_right : (c d : Bool) → d ≡ true → (c || d) ≡ true
or_right true d e = refl
or_right false d e = e

or_either : (c d : Bool) → (c || d) ≡ true → (c ≡ true) ⊎ (d ≡ true)
or_either true d e = inl refl
or_either false d e = inr e

-- ---- something in a list passes a test

module _ {A : Type 0} (test : A → Bool) where
  -- lists end to end
  any_append : (xs ys : List A) → any test (xs ++ ys) ≡ (any test xs || any test ys)
  unfolding any
  any_append [] ys = refl
  any_append (x ∷ xs) ys = go (test x) (any_append xs ys)
    where
      go : (c : Bool) → any test (xs ++ ys) ≡ (any test xs || any test ys) → (c || any test (xs ++ ys)) ≡ ((c || any test xs) || any test ys)
      go true e = refl
      go false e = e

  -- by one element
  any_at : (a : List A) (x : A) (b : List A) → test x ≡ true → any test (a ++ (x ∷ b)) ≡ true
  unfolding any
  any_at a x b e = any_append a (x ∷ b) ∙ or_right (any test a) (test x || any test b) (or_left (test x) (any test b) e)

  -- of what is read at each
  any_map : {B : Type 0} (f : B → A) (xs : List B) → any test (map f xs) ≡ any (λ x. test (f x)) xs
  unfolding any
  any_map f [] = refl
  any_map f (x ∷ xs) = ap (λ c. test (f x) || c) (any_map f xs)

  -- in the units' lists, end to end
  any_of_units : (n : ℕ) (w : Unit → List A) (u : ℕ) → u < n → any test (w (the_unit u)) ≡ true → any test (of_units n w) ≡ true
  unfolding of_units
  any_of_units zero w u h e = absurd (omega arith)
  any_of_units (suc n) w u h e =
      any_append (of_units n w) (w (the_unit n))
      ∙ by_cases (ℕ_discrete u n)
      (λ z. or_right (any test (of_units n w)) (any test (w (the_unit n))) (subst (λ k. any test (w (the_unit k)) ≡ true) z e))
      (λ d. or_left (any test (of_units n w)) (any test (w (the_unit n))) (any_of_units n w u (omega arith) e))

  of_units_any : (n : ℕ) (w : Unit → List A) → any test (of_units n w) ≡ true → (u : ℕ) × (u < n) × (any test (w (the_unit u)) ≡ true)
  unfolding of_units any
  of_units_any zero w e = true≢false (sym e)
  of_units_any (suc n) w e = go (or_either (any test (of_units n w)) (any test (w (the_unit n))) (sym (any_append (of_units n w) (w (the_unit n))) ∙ e)) (of_units_any n w)
    where
      go : (any test (of_units n w) ≡ true) ⊎ (any test (w (the_unit n)) ≡ true) → (any test (of_units n w) ≡ true → (u : ℕ) × (u < n) × (any test (w (the_unit u)) ≡ true))
          → (u : ℕ) × (u < suc n) × (any test (w (the_unit u)) ≡ true)
      go (inl z) f = let i = f z in (i.0, omega arith, i.2)
      go (inr z) f = (n, omega arith, z)

-- ---- the plane of addresses

module _ (m : List ℕ) (a : ℕ) where
  -- a place that has the address and is not free shows it as held
  held_at : (n p : ℕ) → p < n → address_at m p ≡ a → owner m p ≢ 0 → held_to n m a ≡ true
  unfolding held_to
  held_at zero p h e o = absurd (omega arith)
  held_at (suc n) p h e o =
      by_cases (ℕ_discrete p n)
      (λ z. or_right (held_to n m a) (eqb (address_at m n) a && not (eqb (owner m n) 0)) (subst (λ k. (eqb (address_at m k) a && not (eqb (owner m k) 0)) ≡ true) z here))
      (λ d. or_left (held_to n m a) (eqb (address_at m n) a && not (eqb (owner m n) 0)) (held_at n p (omega arith) e o))
    where
      here : (eqb (address_at m p) a && not (eqb (owner m p) 0)) ≡ true
      here = rw (eq-eqb (address_at m p) a e, ne_eqb (owner m p) 0 o)

  -- and only such a place does
  at_held : (n : ℕ) → held_to n m a ≡ true → (p : ℕ) × (p < n) × (address_at m p ≡ a) × (owner m p ≢ 0)
  unfolding held_to
  at_held zero e = true≢false (sym e)
  at_held (suc n) e = go (or_either (held_to n m a) (eqb (address_at m n) a && not (eqb (owner m n) 0)) e) (at_held n)
    where
      go : (held_to n m a ≡ true) ⊎ ((eqb (address_at m n) a && not (eqb (owner m n) 0)) ≡ true) → (held_to n m a ≡ true → (p : ℕ) × (p < n) × (address_at m p ≡ a) × (owner m p ≢ 0))
          → (p : ℕ) × (p < suc n) × (address_at m p ≡ a) × (owner m p ≢ 0)
      go (inl z) f = let i = f z in (i.0, omega arith, i.2, i.3)
      go (inr z) f =
          let b = both (eqb (address_at m n) a) (not (eqb (owner m n) 0)) z in
          (n, omega arith, eqb-true (address_at m n) a b.0, eqb-false (owner m n) 0 (not-true (eqb (owner m n) 0) b.1))

  -- a place of this row has the address
  abbrev row_has : ℕ → Bool
  row_has k = any (λ p. address_at m p =? a) (row_of m k)

  -- a place of a row other than the free one is such a place
  run_held : (k h : ℕ) (l : List ℕ) → k ≢ 0 → Run m k h l → any (λ p. address_at m p =? a) l ≡ true → held_to 32 m a ≡ true
  unfolding any
  run_held k h [] n r e = true≢false (sym e)
  run_held k h (p ∷ l) n r e = go (or_either (address_at m p =? a) (any (λ x. address_at m x =? a) l) e) (run_held k (next m p) l n r.4)
    where
      go : ((address_at m p =? a) ≡ true) ⊎ (any (λ x. address_at m x =? a) l ≡ true) → (any (λ x. address_at m x =? a) l ≡ true → held_to 32 m a ≡ true) → held_to 32 m a ≡ true
      go (inl z) f = held_at 32 p r.1 (eqb-true (address_at m p) a z) (λ y. n (sym r.2 ∙ y))
      go (inr z) f = f z

module _ (m : List ℕ) (r : Rest) (v : Valid m r) where
  -- ---- check 9

  -- a live request has this address
  abbrev Has : ℕ → Request → Bool
  Has a q = q.address =? a

  -- each part of the live requests is read along its rows
  waiting_has : (a u : ℕ) → u < units → any (Has a) ((view m r).waiting (the_unit u)) ≡ row_has m a (3 + u)
  waiting_has a u h = ap (any (Has a)) (waiting_on m r (the_unit u) h) ∙ any_map (Has a) (request_at m) (row_of m (3 + u))

  active_has : (a : ℕ) → any (Has a) (map (λ x. x.request) (view m r).active) ≡ row_has m a 2
  unfolding view
  active_has a = any_map (Has a) (λ x. x.request) (map (active_at m) (row_of m 2)) ∙ any_map (λ x. Has a x.request) (active_at m) (row_of m 2)

  finished_has : (a : ℕ) → any (Has a) (map (λ x. x.request) (view m r).finished) ≡ row_has m a 1
  unfolding view
  finished_has a = any_map (Has a) (λ x. x.request) (map (finished_at m) (row_of m 1)) ∙ any_map (λ x. Has a x.request) (finished_at m) (row_of m 1)

  live_has : (a : ℕ) → address_held (view m r) a ≡ (any (Has a) (of_units units (view m r).waiting) || (row_has m a 2 || row_has m a 1))
  unfolding address_held live
  live_has a =
      let w = of_units units (view m r).waiting in
      let x = map (λ x. x.request) (view m r).active in
      let y = map (λ x. x.request) (view m r).finished in
      any_append (Has a) w (x ++ y) ∙ ap (λ c. any (Has a) w || c) (any_append (Has a) x y ∙ rw (active_has a, finished_has a))

  -- by the row that a place stands in
  row_live : (a k : ℕ) → k < 67 → k ≢ 0 → row_has m a k ≡ true → address_held (view m r) a ≡ true
  row_live a k h n e =
      live_has a
      ∙ by_cases (ℕ_discrete k 1)
      (λ z. or_right w (row_has m a 2 || row_has m a 1) (or_right (row_has m a 2) (row_has m a 1) (subst (λ j. row_has m a j ≡ true) z e)))
      (λ d.
      by_cases (ℕ_discrete k 2)
      (λ z. or_right w (row_has m a 2 || row_has m a 1) (or_left (row_has m a 2) (row_has m a 1) (subst (λ j. row_has m a j ≡ true) z e)))
      (λ f. or_left w (row_has m a 2 || row_has m a 1) (waits d f)))
    where
      w : Bool
      w = any (Has a) (of_units units (view m r).waiting)

      waits : k ≢ 1 → k ≢ 2 → w ≡ true
      waits d f =
          let u : ℕ = k - 3 in
          let z : k ≡ 3 + u = omega arith in
          any_of_units (Has a) units (view m r).waiting u (omega arith) (waiting_has a u (omega arith) ∙ subst (λ j. row_has m a j ≡ true) z e)

  -- and back
  live_row : (a : ℕ) → address_held (view m r) a ≡ true → held_to 32 m a ≡ true
  live_row a e = go (or_either (any (Has a) (of_units units (view m r).waiting)) (row_has m a 2 || row_has m a 1) (sym (live_has a) ∙ e))
    where
      row : (k : ℕ) → k < 67 → k ≢ 0 → row_has m a k ≡ true → held_to 32 m a ≡ true
      row k h n z = run_held m a k (head m k) (row_of m k) n (run_of m v.rows k h) z

      two : (row_has m a 2 ≡ true) ⊎ (row_has m a 1 ≡ true) → held_to 32 m a ≡ true
      two (inl z) = row 2 (omega arith) (omega arith) z
      two (inr z) = row 1 (omega arith) (omega arith) z

      go : (any (Has a) (of_units units (view m r).waiting) ≡ true) ⊎ ((row_has m a 2 || row_has m a 1) ≡ true) → held_to 32 m a ≡ true
      go (inl z) = let i = of_units_any (Has a) units (view m r).waiting z in row (3 + i.0) (omega (arith, i.1)) (omega arith) (sym (waiting_has a i.0 i.1) ∙ i.2)
      go (inr z) = two (or_either (row_has m a 2) (row_has m a 1) z)

  -- the plane of addresses is check 9
  pub held_live : (a : ℕ) → held_to 32 m a ≡ address_held (view m r) a
  held_live a =
      same_test (held_to 32 m a) (address_held (view m r) a)
      (λ e.
      let i = at_held m a 32 e in
      let s = everywhere m v.rows i.0 i.1 in
      row_live a (owner m i.0) s.row i.3
      (ap (any (λ p. address_at m p =? a)) s.parted ∙ any_at (λ p. address_at m p =? a) s.a i.0 s.b (eq-eqb (address_at m i.0) a i.2)))
      (live_row a)

  -- ---- check 11

  -- the waiting requests are the places of the rows from 3 on
  waiting_count : (n : ℕ) → n ≤ units → length (of_units n (view m r).waiting) + total 3 (row_of m) ≡ total (3 + n) (row_of m)
  unfolding of_units total
  waiting_count zero h = omega arith
  waiting_count (suc n) h =
      let e : 3 + suc n ≡ suc (3 + n) = omega arith in
      let t : total (3 + suc n) (row_of m) ≡ total (3 + n) (row_of m) + length (row_of m (3 + n)) = ap (λ k. total k (row_of m)) e in
      let l : length ((view m r).waiting (the_unit n)) ≡ length (row_of m (3 + n)) = ap (length {A = Request}) (waiting_on m r (the_unit n) h) ∙ length-map (row_of m (3 + n)) (request_at m) in
      omega (arith, length-append (of_units n (view m r).waiting) ((view m r).waiting (the_unit n)), waiting_count n (omega arith))

  -- the rows before them
  first_three : total 3 (row_of m) ≡ length (row_of m 0) + length (row_of m 1) + length (row_of m 2)
  unfolding total
  first_three = omega arith

  -- every place is free or live
  live_count : length (live (view m r)) + length (row_of m 0) ≡ 32
  unfolding live view
  live_count =
      let w = of_units units (view m r).waiting in
      let x = map (λ x. x.request) (view m r).active in
      let y = map (λ x. x.request) (view m r).finished in
      omega (
        arith,
        length-append w (x ++ y),
        length-append x y,
        length-map (view m r).active (λ x. x.request),
        length-map (view m r).finished (λ x. x.request),
        length-map (row_of m 2) (active_at m),
        length-map (row_of m 1) (finished_at m),
        waiting_count units (omega arith),
        first_three,
        v.rows.every_place,
      )

  -- the free row is empty: all 32 places are live
  pub none_free : as_place (head m 0) ≡ None → places ≤ length (live (view m r))
  unfolding places
  none_free h = let e = ap (length {A = ℕ}) (row_empty m v.rows 0 (omega arith) h) in omega (arith, live_count)

  -- it has a place: not all are
  pub one_free : (p : ℕ) → as_place (head m 0) ≡ Some p → length (live (view m r)) < places
  unfolding places
  one_free p h = let e = ap (length {A = ℕ}) (row_first m v.rows 0 p (omega arith) h).1 in omega (arith, live_count)

-- ---- the look along the addresses, a place at a time

pub held_none : (m : List ℕ) (a : ℕ) → held_to 0 m a ≡ false
unfolding held_to
held_none m a = refl

pub held_next : (n : ℕ) (m : List ℕ) (a : ℕ) → held_to (n + 1) m a ≡ (held_to n m a || (eqb (address_at m n) a && not (eqb (owner m n) 0)))
unfolding held_to
held_next n m a = let e : n + 1 ≡ suc n = omega arith in ap (λ k. held_to k m a) e
