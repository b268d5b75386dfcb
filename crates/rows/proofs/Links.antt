-- Laws of linked rows, for any row: a change elsewhere, the first unlinked, one more at the end, one more in front.
-- Assumes nothing.
use Prim.Native.Nat.{ℕ, ◌+◌, ◌<◌, ◌≤◌}
use native.Mathlib.Nat.{mod-eq_of_lt}
use native.Mathlib.Decide.{ℕ_discrete}
use native.Mathlib.Omega.{arith}
use mathlib.Core.Path.{◌≡◌, refl, sym, ap, ◌∙◌, subst}
use mathlib.Core.Logic.{◌≢◌, by_cases}
use mathlib.Core.List.{List, [], ◌∷◌, ◌++◌}
use mathlib.Core.Bool.{Bool, true, false, cond}
use borrow.Author.Tests.{lt-ltb, le-ltb, eq-eqb, ne_eqb}
use lib.Dec.{eqb}
use lib.ListN.{length, get_or, set, length-set}
use lib.Seq.{get_or-set_same, get_or-set_other}
use Rattle.rows.specs.Words.{next, owner, head, tail, popped, put_last, put_first, cut_after}
use Rattle.rows.specs.Rows.{NotIn, Run, Last, Row, Linked, put}

-- ---- one list of places

notin_snoc : (x p : ℕ) (l : List ℕ) → NotIn x l → x ≢ p → NotIn x (l ++ (p ∷ []))
notin_snoc x p [] n h = (h, tt)
notin_snoc x p (q ∷ l) n h = (n.0, notin_snoc x p l n.1 h)

notin_last : (x t q : ℕ) (l : List ℕ) → NotIn x (q ∷ l) → Last t (q ∷ l) → x ≢ t
notin_last x t q [] n e = λ z. n.0 (z ∙ e)
notin_last x t q (q' ∷ l) n e = notin_last x t q' l n.1 e

-- a place that another row owns is not in this one
pub owner_notin : (m : List ℕ) (k h p : ℕ) (l : List ℕ) → Run m k h l → owner m p ≢ k → NotIn p l
owner_notin m k h p [] r n = tt
owner_notin m k h p (q ∷ l) r n = (λ e. n (ap (owner m) e ∙ r.2), owner_notin m k (next m q) p l r.4 n)

-- the last of a row is one of its places
pub last_own : (m : List ℕ) (k h t q : ℕ) (l : List ℕ) → Run m k h (q ∷ l) → Last t (q ∷ l) → (t < 32) × (owner m t ≡ k)
last_own m k h t q [] r e = (rw e r.1, rw e r.2)
last_own m k h t q (q' ∷ l) r e = last_own m k (next m q) t q' l r.4 e

module _ (m m' : List ℕ) (k p : ℕ) where
  -- what changes elsewhere leaves a run as it is
  pub run_frame : ((x : ℕ) → x < 32 → owner m x ≡ k → x ≢ p → (next m' x ≡ next m x) × (owner m' x ≡ owner m x)) → (h : ℕ) (l : List ℕ) → NotIn p l → Run m k h l → Run m' k h l
  run_frame ag h [] n r = r
  run_frame ag h (q ∷ l) n r =
      let s = ag q r.1 r.2 (λ e. n.0 (sym e)) in
      (r.0, r.1, s.1 ∙ r.2, r.3, run_frame ag (next m' q) l n.1 (subst (λ (z : ℕ). Run m k z l) (sym s.0) r.4))

  -- one more at the end: p, after t
  pub run_snoc : (t : ℕ) → p < 32 → owner m p ≢ k → owner m' p ≡ k → 32 ≤ next m' p → next m' t ≡ p
      → ((x : ℕ) → x < 32 → owner m x ≡ k → x ≢ t → next m' x ≡ next m x) → ((x : ℕ) → x < 32 → owner m x ≡ k → owner m' x ≡ owner m x)
      → (h q : ℕ) (l : List ℕ) → Run m k h (q ∷ l) → Last t (q ∷ l) → Run m' k h (q ∷ (l ++ (p ∷ [])))
  run_snoc t lp np op ep et ag ao h q [] r e = (
    r.0,
    r.1,
    ao q r.1 r.2 ∙ r.2,
    ((λ z. np (ap (owner m) (sym z) ∙ r.2)), tt),
    (ap (next m') (sym e) ∙ et, lp, op, tt, ep),
  )
  run_snoc t lp np op ep et ag ao h q (q' ∷ l) r e = (
    r.0,
    r.1,
    ao q r.1 r.2 ∙ r.2,
    notin_snoc q p (q' ∷ l) r.3 (λ z. np (ap (owner m) (sym z) ∙ r.2)),
    subst (λ (z : ℕ). Run m' k z (q' ∷ (l ++ (p ∷ [])))) (sym (ag q r.1 r.2 (notin_last q t q' l r.3 e)))
        (run_snoc t lp np op ep et ag ao (next m q) q' l r.4 e),
  )

-- ---- all rows

pub put_same : (k : ℕ) (l : List ℕ) (R : ℕ → List ℕ) → put k l R k ≡ l
put_same k l R = rw (eq-eqb k k refl)

pub put_other : (k j : ℕ) (l : List ℕ) (R : ℕ → List ℕ) → j ≢ k → put k l R j ≡ R j
put_other k j l R n = rw (ne_eqb j k n)

-- row k becomes l, and every other row stays
pub linked_put : (m m' : List ℕ) (R : ℕ → List ℕ) (k : ℕ) (l : List ℕ) → Linked m R → length m' ≡ 838 → Row m' k l
    → ((j : ℕ) → j < 67 → j ≢ k → Row m j (R j) → Row m' j (R j)) → Linked m' (put k l R)
linked_put m m' R k l v s r rest =
    record {
      size = s;
      row = λ j lj.
          by_cases (ℕ_discrete j k)
          (λ e. subst (λ (z : ℕ). Row m' z (put k l R z)) (sym e) (subst (Row m' k) (sym (put_same k l R)) r))
          (λ n. subst (Row m' j) (sym (put_other k j l R n)) (rest j lj n (v.row j lj)));
    }

-- another row than the one that owns a place that changes
pub row_frame : (m m' : List ℕ) (j p : ℕ) (l : List ℕ) → owner m p ≢ j
    → ((x : ℕ) → x < 32 → owner m x ≡ j → x ≢ p → (next m' x ≡ next m x) × (owner m' x ≡ owner m x))
    → head m' j ≡ head m j → tail m' j ≡ tail m j → Row m j l → Row m' j l
row_frame m m' j p l np ag eh et r =
    record {
      run = subst (λ (z : ℕ). Run m' j z l) (sym eh) (run_frame m m' j p ag (head m j) l (owner_notin m j (head m j) p l r.run np) r.run);
      last = subst (λ (z : ℕ). Last z l) (sym et) r.last;
    }

last_tail : (t p : ℕ) (l : List ℕ) → Last t (p ∷ l) → Last t l
last_tail t p [] h = tt
last_tail t p (q ∷ l) h = h

-- a store at another word
pub off : (m : List ℕ) (i j v : ℕ) → j ≢ i → get_or (set m i v) j 0 ≡ get_or m j 0
off m i j v n = get_or-set_other m i j v 0 n

-- the first of row k is unlinked
pub pop_linked : (m : List ℕ) (R : ℕ → List ℕ) (k p : ℕ) (l : List ℕ) → Linked m R → k < 67 → R k ≡ p ∷ l → Linked (popped m k p) (put k l R)
pop_linked m R k p l v lk e =
    linked_put m (popped m k p) R k l v (simp length-set v.size)
    (record {
      run =
          subst (λ (z : ℕ). Run (popped m k p) k z l) (sym (off a (32 + p) (64 + k) 255 (omega (arith, lp)) ∙ get_or-set_same m (64 + k) (next m p) 0 (omega (arith, v.size))))
          (run_frame m (popped m k p) k p (λ x lx ox np. same x lx np) (next m p) l r.run.3 r.run.4);
      last = subst (λ (z : ℕ). Last z l) (sym (tails k lk)) (last_tail (tail m k) p l r.last);
    })
    (λ j lj n rj. row_frame m (popped m k p) j p (R j) (λ z. n (sym z ∙ r.run.2)) (λ x lx ox np. same x lx np)
    (off a (32 + p) (64 + j) 255 (omega (arith, lp)) ∙ off m (64 + k) (64 + j) (next m p) (omega (arith, lp)))
    (tails j lj)
    rj)
  where
    r : Row m k (p ∷ l)
    r = subst (Row m k) e (v.row k lk)

    lp : p < 32
    lp = r.run.1

    a : List ℕ
    a = set m (64 + k) (next m p)

    same : (x : ℕ) → x < 32 → x ≢ p → (next (popped m k p) x ≡ next m x) × (owner (popped m k p) x ≡ owner m x)
    same x lx n = (
      off a (32 + p) x 255 (omega (arith, lp)) ∙ off m (64 + k) x (next m p) (omega (arith, lp)),
      off a (32 + p) (32 + x) 255 (omega (arith, lp)) ∙ off m (64 + k) (32 + x) (next m p) (omega (arith, lp)),
    )

    tails : (j : ℕ) → j < 67 → tail (popped m k p) j ≡ tail m j
    tails j lj = off a (32 + p) (131 + j) 255 (omega (arith, lp)) ∙ off m (64 + k) (131 + j) (next m p) (omega (arith, lp))

last_snoc : (q p : ℕ) (l : List ℕ) → Last p (q ∷ (l ++ (p ∷ [])))
last_snoc q p [] = refl
last_snoc q p (q' ∷ l) = last_snoc q' p l

ne_own : (m : List ℕ) (x p j : ℕ) → owner m x ≡ j → j < 67 → 67 ≤ owner m p → x ≢ p
ne_own m x p j ox lj op z = let y : owner m x ≡ owner m p = ap (owner m) z in omega arith

-- what both ways of `put_last` come to: a link at the word w, and then the same three stores
sealed : List ℕ → ℕ → ℕ → ℕ → List ℕ
sealed m k p w = set (set (set (set m w p) (131 + k) p) p 32) (32 + p) k

module _ (m : List ℕ) (k p w : ℕ) (sz : length m ≡ 838) (lk : k < 67) (lp : p < 32) (lw : w < 131) where
  sealed_size : length (sealed m k p w) ≡ 838
  unfolding sealed
  sealed_size = simp length-set sz

  sealed_off : (i : ℕ) → i ≢ w → i ≢ 131 + k → i ≢ p → i ≢ 32 + p → get_or (sealed m k p w) i 0 ≡ get_or m i 0
  unfolding sealed
  sealed_off i a b c d =
      off (set (set (set m w p) (131 + k) p) p 32) (32 + p) i k d ∙ off (set (set m w p) (131 + k) p) p i 32 c ∙ off (set m w p) (131 + k) i p b ∙ off m w i p a

  sealed_own : owner (sealed m k p w) p ≡ k
  unfolding sealed
  sealed_own = get_or-set_same (set (set (set m w p) (131 + k) p) p 32) (32 + p) k 0 (simp length-set (omega arith))

  sealed_next : next (sealed m k p w) p ≡ 32
  unfolding sealed
  sealed_next =
      off (set (set (set m w p) (131 + k) p) p 32) (32 + p) p k (omega arith) ∙ get_or-set_same (set (set m w p) (131 + k) p) p 32 0 (simp length-set (omega arith))

  sealed_tail : tail (sealed m k p w) k ≡ p
  unfolding sealed
  sealed_tail =
      off (set (set (set m w p) (131 + k) p) p 32) (32 + p) (131 + k) k (omega arith) ∙ off (set (set m w p) (131 + k) p) p (131 + k) 32 (omega arith)
      ∙ get_or-set_same (set m w p) (131 + k) p 0 (simp length-set (omega arith))

  sealed_at : w ≢ p → w ≢ 32 + p → get_or (sealed m k p w) w 0 ≡ p
  unfolding sealed
  sealed_at a b =
      off (set (set (set m w p) (131 + k) p) p 32) (32 + p) w k b ∙ off (set (set m w p) (131 + k) p) p w 32 a ∙ off (set m w p) (131 + k) w p (omega arith)
      ∙ get_or-set_same m w p 0 (omega arith)

module _ (m : List ℕ) (R : ℕ → List ℕ) (k p : ℕ) (v : Linked m R) (lk : k < 67) (lp : p < 32) (op : 67 ≤ owner m p) where
  sealed_none : Linked (sealed m k p (64 + k)) (put k (p ∷ []) R)
  sealed_none =
      linked_put m m' R k (p ∷ []) v (sealed_size m k p w sz lk lp lw)
      (record {
        run = (sealed_at m k p w sz lk lp lw (omega arith) (omega arith), lp, sealed_own m k p w sz lk lp lw, tt, omega (arith, sealed_next m k p w sz lk lp lw));
        last = sealed_tail m k p w sz lk lp lw;
      })
      (λ j lj n rj. row_frame m m' j p (R j) (omega arith)
      (λ x lx ox nz. (keep x (omega arith) (omega arith) nz (omega arith), keep (32 + x) (omega arith) (omega arith) (omega arith) (omega arith)))
      (keep (64 + j) (omega arith) (omega arith) (omega arith) (omega arith))
      (keep (131 + j) (omega arith) (omega arith) (omega arith) (omega arith))
      rj)
    where
      w : ℕ
      w = 64 + k

      m' : List ℕ
      m' = sealed m k p w

      sz : length m ≡ 838
      sz = v.size

      lw : w < 131
      lw = omega arith

      keep : (i : ℕ) → i ≢ w → i ≢ 131 + k → i ≢ p → i ≢ 32 + p → get_or m' i 0 ≡ get_or m i 0
      keep = sealed_off m k p w sz lk lp lw

  sealed_more : (q : ℕ) (l : List ℕ) → Row m k (q ∷ l) → Linked (sealed m k p (tail m k)) (put k (q ∷ (l ++ (p ∷ []))) R)
  sealed_more q l r =
      linked_put m m' R k (q ∷ (l ++ (p ∷ []))) v (sealed_size m k p t sz lk lp lw)
      (record {
        run =
            subst (λ (z : ℕ). Run m' k z (q ∷ (l ++ (p ∷ [])))) (sym (keep (64 + k) (omega (arith, lt)) (omega arith) (omega arith) (omega arith)))
            (run_snoc m m' k p t lp (omega arith) (sealed_own m k p t sz lk lp lw) (omega (arith, sealed_next m k p t sz lk lp lw))
            (sealed_at m k p t sz lk lp lw tp (omega (arith, lt)))
            (λ x lx ox nt. keep x nt (omega arith) (ne_own m x p k ox lk op) (omega arith))
            (λ x lx ox. keep (32 + x) (omega (arith, lt)) (omega arith) (omega arith) (let z = ne_own m x p k ox lk op in omega arith))
            (head m k) q l r.run r.last);
        last = subst (λ (z : ℕ). Last z (q ∷ (l ++ (p ∷ [])))) (sym (sealed_tail m k p t sz lk lp lw)) (last_snoc q p l);
      })
      (λ j lj n rj. row_frame m m' j t (R j) (λ z. n (sym z ∙ ot))
      (λ x lx ox nt.
      let z = ne_own m x p j ox lj op in
      (keep x nt (omega arith) z (omega arith), keep (32 + x) (omega (arith, lt)) (omega arith) (omega arith) (omega arith)))
      (keep (64 + j) (omega (arith, lt)) (omega arith) (omega arith) (omega arith))
      (keep (131 + j) (omega (arith, lt)) (omega arith) (omega arith) (omega arith))
      rj)
    where
      t : ℕ
      t = tail m k

      m' : List ℕ
      m' = sealed m k p t

      sz : length m ≡ 838
      sz = v.size

      lt : t < 32
      lt = (last_own m k (head m k) t q l r.run r.last).0

      ot : owner m t ≡ k
      ot = (last_own m k (head m k) t q l r.run r.last).1

      lw : t < 131
      lw = omega (arith, lt)

      tp : t ≢ p
      tp = ne_own m t p k ot lk op

      keep : (i : ℕ) → i ≢ t → i ≢ 131 + k → i ≢ p → i ≢ 32 + p → get_or m' i 0 ≡ get_or m i 0
      keep = sealed_off m k p t sz lk lp lw

-- place p, which no row owns, becomes the last of row k
pub push_last : (m : List ℕ) (R : ℕ → List ℕ) (k p : ℕ) → Linked m R → k < 67 → p < 32 → 67 ≤ owner m p → Linked (put_last m k p) (put k (R k ++ (p ∷ [])) R)
unfolding put_last sealed
push_last m R k p v lk lp op = go (R k) (v.row k lk)
  where
    go : (l : List ℕ) → Row m k l → Linked (put_last m k p) (put k (l ++ (p ∷ [])) R)
    go [] r = rw (le-ltb (head m k) 32 r.run) (sealed_none m R k p v lk lp op)
    go (q ∷ l) r =
        rw (lt-ltb (head m k) 32 (omega (arith, r.run.0, r.run.1)), mod-eq_of_lt (last_own m k (head m k) (tail m k) q l r.run r.last).0)
        (sealed_more m R k p v lk lp op q l r)

-- what both ways of `put_first` come to, over a memory b that differs from m in the tail of row k alone
fronted : List ℕ → ℕ → ℕ → ℕ → List ℕ
fronted b k p h = set (set (set b (64 + k) p) p h) (32 + p) k

module _ (m b : List ℕ) (R : ℕ → List ℕ) (k p : ℕ) (v : Linked m R) (lk : k < 67) (lp : p < 32) (op : 67 ≤ owner m p)
    (sb : length b ≡ 838) (eb : (i : ℕ) → i ≢ 131 + k → get_or b i 0 ≡ get_or m i 0)
  where
    fronted_linked : (l : List ℕ) → Row m k l → Last (tail b k) (p ∷ l) → Linked (fronted b k p (head m k)) (put k (p ∷ l) R)
    unfolding fronted
    fronted_linked l r la =
        linked_put m m' R k (p ∷ l) v (simp length-set sb)
        (record {
          run = (
            off b₂ (32 + p) (64 + k) k (omega arith) ∙ off b₁ p (64 + k) h (omega arith) ∙ get_or-set_same b (64 + k) p 0 (omega arith),
            lp,
            get_or-set_same b₂ (32 + p) k 0 (simp length-set (omega arith)),
            owner_notin m k h p l r.run (omega arith),
            subst (λ (z : ℕ). Run m' k z l) (sym (off b₂ (32 + p) p k (omega arith) ∙ get_or-set_same b₁ p h 0 (simp length-set (omega arith))))
                (run_frame m m' k p (λ x lx ox n. same x lx n) h l (owner_notin m k h p l r.run (omega arith)) r.run),
          );
          last = subst (λ (z : ℕ). Last z (p ∷ l)) (sym (keepb (131 + k) (omega arith) (omega arith) (omega arith))) la;
        })
        (λ j lj n rj. row_frame m m' j p (R j) (omega arith) (λ x lx ox n'. same x lx n')
        (keepb (64 + j) (omega arith) (omega arith) (omega arith) ∙ eb (64 + j) (omega arith))
        (keepb (131 + j) (omega arith) (omega arith) (omega arith) ∙ eb (131 + j) (omega arith))
        rj)
      where
        h : ℕ
        h = head m k

        b₁ : List ℕ
        b₁ = set b (64 + k) p

        b₂ : List ℕ
        b₂ = set b₁ p h

        m' : List ℕ
        m' = fronted b k p h

        keepb : (i : ℕ) → i ≢ 64 + k → i ≢ p → i ≢ 32 + p → get_or m' i 0 ≡ get_or b i 0
        keepb i x y z = off b₂ (32 + p) i k z ∙ off b₁ p i h y ∙ off b (64 + k) i p x

        same : (x : ℕ) → x < 32 → x ≢ p → (next m' x ≡ next m x) × (owner m' x ≡ owner m x)
        same x lx n = (
          keepb x (omega arith) n (omega arith) ∙ eb x (omega arith),
          keepb (32 + x) (omega arith) (omega arith) (omega arith) ∙ eb (32 + x) (omega arith),
        )

-- place p, which no row owns, becomes the first of row k
pub push_first : (m : List ℕ) (R : ℕ → List ℕ) (k p : ℕ) → Linked m R → k < 67 → p < 32 → 67 ≤ owner m p → Linked (put_first m k p) (put k (p ∷ R k) R)
unfolding put_first fronted
push_first m R k p v lk lp op = go (R k) (v.row k lk)
  where
    go : (l : List ℕ) → Row m k l → Linked (put_first m k p) (put k (p ∷ l) R)
    go [] r =
        rw (le-ltb (head m k) 32 r.run)
        (fronted_linked m (set m (131 + k) p) R k p v lk lp op (simp length-set v.size) (λ i n. off m (131 + k) i p n) [] r
        (get_or-set_same m (131 + k) p 0 (omega (arith, v.size))))
    go (q ∷ l) r =
        rw (lt-ltb (head m k) 32 (omega (arith, r.run.0, r.run.1)))
        (fronted_linked m m R k p v lk lp op v.size (λ i n. refl) (q ∷ l) r r.last)

-- ---- a place in the middle is unlinked

notin_drop : (x p : ℕ) (a b : List ℕ) → NotIn x (a ++ (p ∷ b)) → (x ≢ p) × NotIn x (a ++ b)
notin_drop x p [] b n = (n.0, n.1)
notin_drop x p (y ∷ a) b n = let r = notin_drop x p a b n.1 in (r.0, (n.0, r.1))

pub notin_within : (x q y : ℕ) (a b : List ℕ) → NotIn x (y ∷ (a ++ b)) → Last q (y ∷ a) → x ≢ q
notin_within x q y [] b n e = λ z. n.0 (z ∙ e)
notin_within x q y (y' ∷ a) b n e = notin_within x q y' a b n.1 e

pub last_within : (m : List ℕ) (k h q x : ℕ) (a b : List ℕ) → Run m k h (x ∷ (a ++ b)) → Last q (x ∷ a) → (q < 32) × (owner m q ≡ k)
last_within m k h q x [] b r e = (rw e r.1, rw e r.2)
last_within m k h q x (y ∷ a) b r e = last_within m k (next m x) q y a b r.4 e

-- of the place after q: it is a place of row k, not q, and not later
pub cut_place : (m : List ℕ) (k h q p x : ℕ) (a b : List ℕ) → Run m k h (x ∷ (a ++ (p ∷ b))) → Last q (x ∷ a) → (p < 32) × (owner m p ≡ k) × (p ≢ q) × NotIn p b
cut_place m k h q p x [] b r e = (r.4.1, r.4.2, (λ z. r.3.0 (sym e ∙ sym z)), r.4.3)
cut_place m k h q p x (y ∷ a) b r e = cut_place m k (next m x) q p y a b r.4 e

module _ (m m' : List ℕ) (k p q : ℕ) (ag : (x : ℕ) → x < 32 → x ≢ p → (owner m' x ≡ owner m x) × (x ≢ q → next m' x ≡ next m x)) (eq : next m' q ≡ next m p) where
  run_after : (h : ℕ) (b : List ℕ) → NotIn p b → NotIn q b → Run m k h b → Run m' k h b
  run_after h [] np nq r = r
  run_after h (y ∷ b) np nq r =
      let s = ag y r.1 (λ z. np.0 (sym z)) in
      (r.0, r.1, s.0 ∙ r.2, r.3, subst (λ (z : ℕ). Run m' k z b) (sym (s.1 (λ z. nq.0 (sym z)))) (run_after (next m y) b np.1 nq.1 r.4))

  run_cut : (h x : ℕ) (a b : List ℕ) → Run m k h (x ∷ (a ++ (p ∷ b))) → Last q (x ∷ a) → Run m' k h (x ∷ (a ++ b))
  run_cut h x [] b r e = (
    r.0,
    r.1,
    (ag x r.1 r.3.0).0 ∙ r.2,
    r.3.1,
    subst (λ (z : ℕ). Run m' k z b) (sym eq ∙ ap (next m') e)
        (run_after (next m p) b r.4.3 (subst (λ (z : ℕ). NotIn z b) (sym e) r.3.1) r.4.4),
  )
  run_cut h x (y ∷ a) b r e =
      let d = notin_drop x p (y ∷ a) b r.3 in (
        r.0,
        r.1,
        (ag x r.1 d.0).0 ∙ r.2,
        d.1,
        subst (λ (z : ℕ). Run m' k z (y ∷ (a ++ b))) (sym ((ag x r.1 d.0).1 (notin_within x q y a (p ∷ b) r.3 e))) (run_cut (next m x) y a b r.4 e),
      )

-- the last of what is left
last_cut : (t p q x : ℕ) (a b : List ℕ) → Last t (x ∷ (a ++ (p ∷ b))) → Last q (x ∷ a) → NotIn p b → Last (cond (eqb t p) q t) (x ∷ (a ++ b))
last_cut t p q x [] [] h e n = subst (λ z. Last (cond z q t) (x ∷ [])) (sym (eq-eqb t p h)) e
last_cut t p q x [] (y ∷ b) h e n = subst (λ z. Last (cond z q t) (x ∷ (y ∷ b))) (sym (ne_eqb t p (λ z. notin_last p t y b n h (sym z)))) h
last_cut t p q x (y ∷ a) b h e n = last_cut t p q y a b h e n

pub cut_linked : (m : List ℕ) (R : ℕ → List ℕ) (k q p x : ℕ) (a b : List ℕ) → Linked m R → k < 67 → R k ≡ x ∷ (a ++ (p ∷ b)) → Last q (x ∷ a)
    → Linked (cut_after m k q p) (put k (x ∷ (a ++ b)) R)
unfolding cut_after
cut_linked m R k q p x a b v lk e la =
    linked_put m m' R k (x ∷ (a ++ b)) v (simp length-set sw)
    (record {
      run =
          subst (λ (z : ℕ). Run m' k z (x ∷ (a ++ b))) (sym (heads k lk))
          (run_cut m m' k p q (λ y ly n. (owns y ly n, λ n'. nexts y ly n')) after (head m k) x a b r.run la);
      last =
          subst (λ (z : ℕ). Last z (x ∷ (a ++ b))) (sym (off w₁ (32 + p) (131 + k) 255 (omega (arith, lp)) ∙ off w q (131 + k) (next m p) (omega (arith, lq)) ∙ tail_w))
          (last_cut (tail m k) p q x a b r.last la pl.3);
    })
    (λ j lj n rj. row_frame m m' j p (R j) (λ z. n (sym z ∙ pl.1))
    (λ y ly oy np. (nexts y ly (λ z. n (sym oy ∙ ap (owner m) z ∙ oq)), owns y ly np))
    (heads j lj)
    (off w₁ (32 + p) (131 + j) 255 (omega (arith, lp)) ∙ off w q (131 + j) (next m p) (omega (arith, lq)) ∙ w_off (131 + j) (omega arith))
    rj)
  where
    r : Row m k (x ∷ (a ++ (p ∷ b)))
    r = subst (Row m k) e (v.row k lk)

    pl : (p < 32) × (owner m p ≡ k) × (p ≢ q) × NotIn p b
    pl = cut_place m k (head m k) q p x a b r.run la

    lp : p < 32
    lp = pl.0

    lq : q < 32
    lq = (last_within m k (head m k) q x a (p ∷ b) r.run la).0

    oq : owner m q ≡ k
    oq = (last_within m k (head m k) q x a (p ∷ b) r.run la).1

    w : List ℕ
    w = cond (eqb (tail m k) p) (set m (131 + k) q) m

    w₁ : List ℕ
    w₁ = set w q (next m p)

    m' : List ℕ
    m' = set w₁ (32 + p) 255

    sw : length w ≡ 838
    sw = go (eqb (tail m k) p)
      where
        go : (t : Bool) → length (cond t (set m (131 + k) q) m) ≡ 838
        go true = simp length-set v.size
        go false = v.size

    w_off : (i : ℕ) → i ≢ 131 + k → get_or w i 0 ≡ get_or m i 0
    w_off i n = go (eqb (tail m k) p)
      where
        go : (t : Bool) → get_or (cond t (set m (131 + k) q) m) i 0 ≡ get_or m i 0
        go true = off m (131 + k) i q n
        go false = refl

    tail_w : get_or w (131 + k) 0 ≡ cond (eqb (tail m k) p) q (tail m k)
    tail_w = go (eqb (tail m k) p)
      where
        go : (t : Bool) → get_or (cond t (set m (131 + k) q) m) (131 + k) 0 ≡ cond t q (tail m k)
        go true = get_or-set_same m (131 + k) q 0 (omega (arith, v.size))
        go false = refl

    nexts : (y : ℕ) → y < 32 → y ≢ q → next m' y ≡ next m y
    nexts y ly n = off w₁ (32 + p) y 255 (omega arith) ∙ off w q y (next m p) n ∙ w_off y (omega arith)

    owns : (y : ℕ) → y < 32 → y ≢ p → owner m' y ≡ owner m y
    owns y ly n = off w₁ (32 + p) (32 + y) 255 (omega arith) ∙ off w q (32 + y) (next m p) (omega (arith, lq)) ∙ w_off (32 + y) (omega arith)

    heads : (j : ℕ) → j < 67 → head m' j ≡ head m j
    heads j lj = off w₁ (32 + p) (64 + j) 255 (omega (arith, lp)) ∙ off w q (64 + j) (next m p) (omega (arith, lq)) ∙ w_off (64 + j) (omega arith)

    after : next m' q ≡ next m p
    after = off w₁ (32 + p) q 255 (omega (arith, lq)) ∙ get_or-set_same w q (next m p) 0 (omega (arith, sw, lq))
