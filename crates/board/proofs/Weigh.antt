-- Lists weighed by a number for each element, and what the list operations of specs/ do to the weight. A count and a length
-- are weights, so what is proved of every weight is proved of both. Assumes nothing.
use Rattle.std.specs.Prelude.{if◌then◌else◌, Some}
use mathlib.Core.Path.{◌≡◌, refl, sym, ◌∙◌, ap, subst}
use mathlib.Core.Logic.{◌⊎◌, inl, inr, ◌≢◌}
use mathlib.Core.Bool.{Bool, true, false, ◌||◌}
use mathlib.Core.List.{List, [], ◌∷◌, ◌++◌, map}
use Prim.Native.Nat.{ℕ, zero, suc, ◌+◌, ◌≤◌, ◌<◌}
use native.Mathlib.Omega.{arith}
use lib.ListN.{length}
use Rattle.board.specs.Types.{Ticket, Unit}
use Rattle.board.specs.Plain.{◌<?◌, any, count, Each}
use Rattle.board.specs.Board.{the_unit, same_unit, same_ticket, at, of_units, find, without, insert, by_ticket}
use Rattle.board.proofs.Choose.{if_ind, both_ifs, none≢some, same, differ, neither, or_swap, one_unit, one_ticket}

-- ---- weights

abbrev pub weigh : {A : Type 0} → (A → ℕ) → List A → ℕ
weigh g [] = 0
weigh g (x ∷ xs) = g x + weigh g xs

-- the weight of what passes a test
abbrev pub one : {A : Type 0} → (A → Bool) → A → ℕ
one test x = if test x then 1 else 0

pub weigh_append : {A : Type 0} (g : A → ℕ) (xs ys : List A) → weigh g (xs ++ ys) ≡ weigh g xs + weigh g ys
weigh_append g [] ys = omega arith
weigh_append g (x ∷ xs) ys = omega (arith, weigh_append g xs ys)

pub weigh_map : {A B : Type 0} (g : B → ℕ) (h : A → B) (xs : List A) → weigh g (map h xs) ≡ weigh (λ x. g (h x)) xs
weigh_map g h [] = refl
weigh_map g h (x ∷ xs) = ap (λ n. g (h x) + n) (weigh_map g h xs)

-- weights that agree on every element
pub weigh_same : {A : Type 0} (g h : A → ℕ) → ((x : A) → g x ≡ h x) → (xs : List A) → weigh g xs ≡ weigh h xs
weigh_same g h e [] = refl
weigh_same g h e (x ∷ xs) = let p = e x in omega (arith, weigh_same g h e xs)

-- a weight that is nowhere more
pub weigh_at_most : {A : Type 0} (g h : A → ℕ) → ((x : A) → g x ≤ h x) → (xs : List A) → weigh g xs ≤ weigh h xs
weigh_at_most g h e [] = omega arith
weigh_at_most g h e (x ∷ xs) = let p = e x in omega (arith, weigh_at_most g h e xs)

pub weigh_length : {A : Type 0} (xs : List A) → length xs ≡ weigh (λ x. 1) xs
weigh_length [] = refl
weigh_length (x ∷ xs) = omega (arith, weigh_length xs)

pub weigh_count : {A : Type 0} (test : A → Bool) (xs : List A) → count test xs ≡ weigh (one test) xs
unfolding count
weigh_count test [] = refl
weigh_count test (x ∷ xs) = ap (λ n. one test x + n) (weigh_count test xs)

-- where nothing passes the test, it weighs nothing
pub weigh_none : {A : Type 0} (test : A → Bool) (xs : List A) → any test xs ≡ false → weigh (one test) xs ≡ 0
unfolding any
weigh_none test [] e = refl
weigh_none test (x ∷ xs) e =
    let p = neither (test x) (any test xs) e in
    rw p.0 (omega (arith, weigh_none test xs p.1))

-- what weighs nothing by a test holds the opposite of each element
pub each_other : {A : Type 0} (P : A → Type 0) (test : A → Bool) → ((x : A) → test x ≡ false → P x) → (xs : List A) → weigh (one test) xs ≡ 0 → Each P xs
unfolding Each
each_other P test f [] e = tt
each_other P test f (x ∷ xs) e =
    let here : test x ≡ false → P x = f x in
    (go (test x) here e, each_other P test f xs (omega arith))
  where
    go : (c : Bool) → (c ≡ false → P x) → (if c then 1 else 0) + weigh (one test) xs ≡ 0 → P x
    go true h k = absurd (omega arith)
    go false h k = h refl

-- and the other way round
pub weigh_each : {A : Type 0} (P : A → Type 0) (test : A → Bool) → ((x : A) → P x → test x ≡ false) → (xs : List A) → Each P xs → weigh (one test) xs ≡ 0
unfolding Each
weigh_each P test f [] h = refl
weigh_each P test f (x ∷ xs) h = rw (f x h.0) (omega (arith, weigh_each P test f xs h.1))

-- ---- the units' lists, end to end

-- beyond the unit that is changed nothing changes
of_units_beyond : {A : Type 0} (n : ℕ) (u : Unit) (l : List A) (w : Unit → List A) → n ≤ u.0 → of_units n (at u l w) ≡ of_units n w
unfolding of_units
of_units_beyond zero u l w h = refl
of_units_beyond (suc n) u l w h =
    if_ind (λ x. of_units n (at u l w) ++ x ≡ of_units n w ++ w (the_unit n)) (same_unit (the_unit n) u) l (w (the_unit n))
    (λ e. let k : n ≡ u.0 = same e in absurd (omega arith))
    (λ e. ap (λ x. x ++ w (the_unit n)) (of_units_beyond n u l w (omega arith)))

-- a unit's list in place of another
pub weigh_at : {A : Type 0} (g : A → ℕ) (n : ℕ) (u : Unit) (l : List A) (w : Unit → List A) → u.0 < n
    → weigh g (of_units n (at u l w)) + weigh g (w u) ≡ weigh g (of_units n w) + weigh g l
unfolding of_units
weigh_at g zero u l w h = absurd (omega arith)
weigh_at g (suc n) u l w h =
    rw (weigh_append g (of_units n (at u l w)), weigh_append g (of_units n w))
    (if_ind (λ x. weigh g (of_units n (at u l w)) + weigh g x + weigh g (w u) ≡ weigh g (of_units n w) + weigh g (w (the_unit n)) + weigh g l) (same_unit (the_unit n) u) l (w (the_unit n))
    (λ e. let k : n ≡ u.0 = same e in
    let p : weigh g (of_units n (at u l w)) ≡ weigh g (of_units n w) = ap (weigh g) (of_units_beyond n u l w (omega arith)) in
    let q : weigh g (w (the_unit n)) ≡ weigh g (w u) = ap (λ v. weigh g (w v)) (one_unit k) in
    omega arith)
    (λ e. let ne : n ≢ u.0 = differ e in let p = weigh_at g n u l w (omega arith) in omega arith))

-- empty lists weigh nothing
pub weigh_empty : {A : Type 0} (g : A → ℕ) (n : ℕ) → weigh g (of_units n (λ u. [])) ≡ 0
unfolding of_units
weigh_empty g zero = refl
weigh_empty g (suc n) = let p = weigh_append g (of_units n (λ u. [])) [] in omega (arith, weigh_empty g n)

-- ---- each element

pub each_append : {A : Type 0} (P : A → Type 0) (xs ys : List A) → Each P xs → Each P ys → Each P (xs ++ ys)
unfolding Each
each_append P [] ys h k = k
each_append P (x ∷ xs) ys h k = (h.0, each_append P xs ys h.1 k)

pub each_map : {A B : Type 0} (P : B → Type 0) (f : A → B) (Q : A → Type 0) → ((x : A) → Q x → P (f x)) → (xs : List A) → Each Q xs → Each P (map f xs)
unfolding Each
each_map P f Q k [] h = tt
each_map P f Q k (x ∷ xs) h = (k x h.0, each_map P f Q k xs h.1)

-- ---- lists of things that have a ticket

module _ {A : Type 0} (ticket_of : A → Ticket) where
  -- what is found has the ticket
  pub find_ticket : (t : Ticket) (xs : List A) (x : A) → find ticket_of t xs ≡ Some x → ticket_of x ≡ t
  unfolding find
  find_ticket t [] x = λ e. none≢some e
  find_ticket t (y ∷ ys) x =
      if_ind (λ o. o ≡ Some x → ticket_of x ≡ t) (same_ticket (ticket_of y) t) (Some y) (find ticket_of t ys)
      (λ k e. let p : ticket_of y ≡ t = one_ticket (same k) in let q : y ≡ x = cc in ap ticket_of (sym q) ∙ p)
      (λ k e. find_ticket t ys x e)

  -- and each property that all of them have
  pub find_each : (P : A → Type 0) (t : Ticket) (xs : List A) (x : A) → Each P xs → find ticket_of t xs ≡ Some x → P x
  unfolding find Each
  find_each P t [] x h = λ e. none≢some e
  find_each P t (y ∷ ys) x h =
      if_ind (λ o. o ≡ Some x → P x) (same_ticket (ticket_of y) t) (Some y) (find ticket_of t ys)
      (λ k e. let q : y ≡ x = cc in subst P q h.0)
      (λ k e. find_each P t ys x h.1 e)

  find_append : (t : Ticket) (xs ys : List A) (x : A) → find ticket_of t (xs ++ ys) ≡ Some x → (find ticket_of t xs ≡ Some x) ⊎ (find ticket_of t ys ≡ Some x)
  unfolding find
  find_append t [] ys x = λ e. inr e
  find_append t (z ∷ zs) ys x =
      if_ind
      (λ o. o ≡ Some x → (find ticket_of t (z ∷ zs) ≡ Some x) ⊎ (find ticket_of t ys ≡ Some x))
      (same_ticket (ticket_of z) t) (Some z) (find ticket_of t (zs ++ ys))
      (λ k e. inl (rw k e))
      (λ k e. rw k (find_append t zs ys x e))

  -- what is found among the units' lists is found in one of them
  pub find_of_units : (t : Ticket) (n : ℕ) (w : Unit → List A) (x : A) → find ticket_of t (of_units n w) ≡ Some x → (u : Unit) × (u.0 < n) × (find ticket_of t (w u) ≡ Some x)
  unfolding of_units find
  find_of_units t zero w x e = none≢some e
  find_of_units t (suc n) w x e = go (λ k. find_of_units t n w x k) (find_append t (of_units n w) (w (the_unit n)) x e)
    where
      go : (find ticket_of t (of_units n w) ≡ Some x → (u : Unit) × (u.0 < n) × (find ticket_of t (w u) ≡ Some x))
          → (find ticket_of t (of_units n w) ≡ Some x) ⊎ (find ticket_of t (w (the_unit n)) ≡ Some x) → (u : Unit) × (u.0 < suc n) × (find ticket_of t (w u) ≡ Some x)
      go rest (inl k) = let r = rest k in (r.0, omega arith, r.2)
      go rest (inr k) = (the_unit n, omega arith, k)

  -- taking out what is found takes its weight off
  pub weigh_without : (g : A → ℕ) (t : Ticket) (xs : List A) (x : A) → find ticket_of t xs ≡ Some x → weigh g (without ticket_of t xs) + g x ≡ weigh g xs
  unfolding find without
  weigh_without g t [] x = λ e. none≢some e
  weigh_without g t (y ∷ ys) x =
      both_ifs (λ o l. o ≡ Some x → weigh g l + g x ≡ g y + weigh g ys) (same_ticket (ticket_of y) t) (Some y) (find ticket_of t ys) ys (y ∷ without ticket_of t ys)
      (λ e. let q : y ≡ x = cc in let p : g y ≡ g x = ap g q in omega arith)
      (λ e. let p = weigh_without g t ys x e in omega arith)

  pub each_without : (P : A → Type 0) (t : Ticket) (xs : List A) → Each P xs → Each P (without ticket_of t xs)
  unfolding Each without
  each_without P t [] h = tt
  each_without P t (y ∷ ys) h =
      if_ind (Each P) (same_ticket (ticket_of y) t) ys (y ∷ without ticket_of t ys) (λ k. h.1) (λ k. (h.0, each_without P t ys h.1))

  weigh_insert : (g : A → ℕ) (y : A) (xs : List A) → weigh g (insert ticket_of y xs) ≡ g y + weigh g xs
  unfolding insert
  weigh_insert g y [] = refl
  weigh_insert g y (x ∷ xs) =
      if_ind (λ l. weigh g l ≡ g y + (g x + weigh g xs)) ((ticket_of y).0 <? (ticket_of x).0) (y ∷ x ∷ xs) (x ∷ insert ticket_of y xs)
      (λ k. refl)
      (λ k. let p = weigh_insert g y xs in omega arith)

  -- order alters no weight
  pub weigh_by_ticket : (g : A → ℕ) (xs : List A) → weigh g (by_ticket ticket_of xs) ≡ weigh g xs
  unfolding by_ticket
  weigh_by_ticket g [] = refl
  weigh_by_ticket g (x ∷ xs) = let p = weigh_insert g x (by_ticket ticket_of xs) in omega (arith, weigh_by_ticket g xs)

  any_insert : (test : A → Bool) (y : A) (xs : List A) → any test (insert ticket_of y xs) ≡ (test y || any test xs)
  unfolding insert any
  any_insert test y [] = refl
  any_insert test y (x ∷ xs) =
      if_ind (λ l. any test l ≡ (test y || (test x || any test xs))) ((ticket_of y).0 <? (ticket_of x).0) (y ∷ x ∷ xs) (x ∷ insert ticket_of y xs)
      (λ k. refl)
      (λ k. ap (λ c. test x || c) (any_insert test y xs) ∙ or_swap (test x) (test y) (any test xs))

  -- nor whether something passes a test
  pub any_by_ticket : (test : A → Bool) (xs : List A) → any test (by_ticket ticket_of xs) ≡ any test xs
  unfolding by_ticket any
  any_by_ticket test [] = refl
  any_by_ticket test (x ∷ xs) = any_insert test x (by_ticket ticket_of xs) ∙ ap (λ c. test x || c) (any_by_ticket test xs)

  each_insert : (P : A → Type 0) (y : A) (xs : List A) → P y → Each P xs → Each P (insert ticket_of y xs)
  unfolding insert Each
  each_insert P y [] p h = (p, tt)
  each_insert P y (x ∷ xs) p h =
      if_ind (Each P) ((ticket_of y).0 <? (ticket_of x).0) (y ∷ x ∷ xs) (x ∷ insert ticket_of y xs) (λ k. (p, h)) (λ k. (h.0, each_insert P y xs p h.1))

  -- nor what is true of each
  pub each_by_ticket : (P : A → Type 0) (xs : List A) → Each P xs → Each P (by_ticket ticket_of xs)
  unfolding by_ticket Each
  each_by_ticket P [] h = tt
  each_by_ticket P (x ∷ xs) h = each_insert P x (by_ticket ticket_of xs) h.0 (each_by_ticket P xs h.1)
