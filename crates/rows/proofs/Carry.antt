-- A place is taken out of one row, something is written that is no link, and it is put into a row: the rows afterwards. What every
-- call that moves a request cites. Assumes nothing.
use Prim.Native.Nat.{ℕ, suc, ◌+◌, ◌<◌, ◌≤◌, ◌%◌}
use native.Mathlib.Omega.{arith}
use mathlib.Core.Path.{◌≡◌, refl, sym, ap, ◌∙◌, subst}
use mathlib.Core.Logic.{◌≢◌}
use mathlib.Core.List.{List, [], ◌∷◌, ◌++◌, map}
use mathlib.Core.Bool.{Bool, true, false, cond}
use lib.Dec.{ltb, eqb}
use Rattle.std.specs.Prelude.{Option, None, Some}
use lib.ListN.{length, get_or, set, length-set, length-append}
use lib.Seq.{get_or-set_same}
use Rattle.rows.specs.Words.{next, owner, head, tail, popped, put_last, put_first, cut_after, cut_out}
use Rattle.rows.specs.Rows.{NotIn, Run, Last, Linked, put, total, row_of, SoundRows}
use Rattle.rows.proofs.Search.{last_of}
use Rattle.rows.proofs.Links.{off, pop_linked, push_last, push_first, cut_linked, cut_place, last_within, put_same, put_other}
use Rattle.rows.proofs.Shown.{total_put, rows_found, shown, map_run, map_snoc}

-- ---- words that are no link: from 198 on

-- the links' stores do not touch them
pub pop_data : (m : List ℕ) (k p i : ℕ) → k < 67 → p < 32 → 198 ≤ i → get_or (popped m k p) i 0 ≡ get_or m i 0
pop_data m k p i lk lp d = off (set m (64 + k) (next m p)) (32 + p) i 255 (omega arith) ∙ off m (64 + k) i (next m p) (omega arith)

either : (t : Bool) (a b : List ℕ) (i z : ℕ) → get_or a i 0 ≡ z → get_or b i 0 ≡ z → get_or (cond t a b) i 0 ≡ z
either true a b i z x y = x
either false a b i z x y = y

last_data : (m : List ℕ) (k p i : ℕ) → k < 67 → p < 32 → 198 ≤ i → get_or (put_last m k p) i 0 ≡ get_or m i 0
unfolding put_last
last_data m k p i lk lp d =
    let w = cond (ltb (head m k) 32) (set m (tail m k % 32) p) (set m (64 + k) p) in
    off (set (set w (131 + k) p) p 32) (32 + p) i k (omega arith)
    ∙ (off (set w (131 + k) p) p i 32 (omega arith)
    ∙ (off w (131 + k) i p (omega arith)
    ∙ either (ltb (head m k) 32) (set m (tail m k % 32) p) (set m (64 + k) p) i (get_or m i 0) (off m (tail m k % 32) i p (omega arith)) (off m (64 + k) i p (omega arith))))

first_data : (m : List ℕ) (k p i : ℕ) → k < 67 → p < 32 → 198 ≤ i → get_or (put_first m k p) i 0 ≡ get_or m i 0
unfolding put_first
first_data m k p i lk lp d =
    let w = cond (ltb (head m k) 32) m (set m (131 + k) p) in
    off (set (set w (64 + k) p) p (head m k)) (32 + p) i k (omega arith)
    ∙ (off (set w (64 + k) p) p i (head m k) (omega arith)
    ∙ (off w (64 + k) i p (omega arith)
    ∙ either (ltb (head m k) 32) m (set m (131 + k) p) i (get_or m i 0) refl (off m (131 + k) i p (omega arith))))

cut_data : (m : List ℕ) (k q p i : ℕ) → k < 67 → q < 32 → p < 32 → 198 ≤ i → get_or (cut_after m k q p) i 0 ≡ get_or m i 0
unfolding cut_after
cut_data m k q p i lk lq lp d =
    let w = cond (eqb (tail m k) p) (set m (131 + k) q) m in
    off (set w q (next m p)) (32 + p) i 255 (omega arith)
    ∙ (off w q i (next m p) (omega arith) ∙ either (eqb (tail m k) p) (set m (131 + k) q) m i (get_or m i 0) (off m (131 + k) i q (omega arith)) refl)

-- ---- stores of such words alone

pub record SameLinks (m m' : List ℕ) : Type 0 where
  pub size : length m' ≡ length m
  pub links : (i : ℕ) → i < 198 → get_or m' i 0 ≡ get_or m i 0

pub same_links : (m : List ℕ) → SameLinks m m
same_links m = record { size = refl; links = λ i h. refl }

pub set_links : (m m' : List ℕ) (i x : ℕ) → SameLinks m m' → 198 ≤ i → SameLinks m (set m' i x)
set_links m m' i x s h = record {
  size = length-set m' i x ∙ s.size;
  links = λ j l. off m' i j x (omega arith) ∙ s.links j l;
}

same_run : (m m' : List ℕ) (k : ℕ) → SameLinks m m' → (h : ℕ) (l : List ℕ) → Run m k h l → Run m' k h l
same_run m m' k s h [] r = r
same_run m m' k s h (p ∷ l) r = (
  r.0,
  r.1,
  s.links (32 + p) (omega (arith, r.1)) ∙ r.2,
  r.3,
  same_run m m' k s (next m' p) l (subst (λ z. Run m k z l) (sym (s.links p (omega (arith, r.1)))) r.4),
)

pub same_linked : (m m' : List ℕ) (R : ℕ → List ℕ) → SameLinks m m' → Linked m R → Linked m' R
same_linked m m' R s v = record {
  size = s.size ∙ v.size;
  row = λ k h. record {
    run = subst (λ z. Run m' k z (R k)) (sym (s.links (64 + k) (omega arith))) (same_run m m' k s (head m k) (R k) (v.row k h).run);
    last = subst (λ z. Last z (R k)) (sym (s.links (131 + k) (omega arith))) (v.row k h).last;
  };
}

-- such stores leave every row as it was
pub same_rows : (m m' : List ℕ) → SameLinks m m' → SoundRows m → SoundRows m' × ((k : ℕ) → k < 67 → row_of m' k ≡ row_of m k)
same_rows m m' s v =
    let l = same_linked m m' (row_of m) s v.linked in
    (shown m' (row_of m) l v.every_place, rows_found m' (row_of m) l v.every_place)

-- nor what is read along it, where that is the same at every place
pub same_read : {A : Type 0} (m m' : List ℕ) (g' g : ℕ → A) → SameLinks m m' → SoundRows m → ((x : ℕ) → x < 32 → g' x ≡ g x) → (k : ℕ) → k < 67 → map g' (row_of m' k) ≡ map g (row_of m k)
same_read m m' g' g s v e k h = ap (map g') ((same_rows m m' s v).1 k h) ∙ map_run m k (head m k) g' g (row_of m k) (λ x lx ox. e x lx) (v.linked.row k h).run

-- ---- a place is taken out

-- from m to m₁ place p is taken out of row k, of which l is left; only links change
pub record Out (m m₁ : List ℕ) (k p : ℕ) (l : List ℕ) : Type 0 where
  pub linked : Linked m₁ (put k l (row_of m))
  pub place : p < 32
  pub loose : owner m₁ p ≡ 255
  pub less : length (row_of m k) ≡ suc (length l)
  pub kept : (i : ℕ) → 198 ≤ i → get_or m₁ i 0 ≡ get_or m i 0

pub first_out : (m : List ℕ) (k p : ℕ) (l : List ℕ) → SoundRows m → k < 67 → row_of m k ≡ p ∷ l → Out m (popped m k p) k p l
first_out m k p l v lk e =
    let r : Run m k (head m k) (p ∷ l) = subst (Run m k (head m k)) e (v.linked.row k lk).run in record {
      linked = pop_linked m (row_of m) k p l v.linked lk e;
      place = r.1;
      loose = get_or-set_same (set m (64 + k) (next m p)) (32 + p) 255 0 (simp length-set (omega (arith, r.1, v.linked.size)));
      less = ap (length {A = ℕ}) e;
      kept = λ i d. pop_data m k p i lk r.1 d;
    }

cut_loose : (m : List ℕ) (k q p : ℕ) → length m ≡ 838 → p < 32 → owner (cut_after m k q p) p ≡ 255
unfolding cut_after
cut_loose m k q p sz lp = get_or-set_same (set (cond (eqb (tail m k) p) (set m (131 + k) q) m) q (next m p)) (32 + p) 255 0 (simp length-set (omega (arith, go (eqb (tail m k) p))))
  where
    go : (t : Bool) → length (cond t (set m (131 + k) q) m) ≡ 838
    go true = simp length-set sz
    go false = sz

-- the last of x and the places a, as the links' laws have it
last_some : (x : ℕ) (a : List ℕ) → (q : ℕ) × (last_of (Some x) a ≡ Some q) × Last q (x ∷ a)
last_some x [] = (x, refl, refl)
last_some x (y ∷ a) = last_some y a

-- p stands after a, whose last is q, and before b
pub place_out : (m : List ℕ) (k : ℕ) (q : Option ℕ) (p : ℕ) (a b : List ℕ) → SoundRows m → k < 67 → row_of m k ≡ a ++ (p ∷ b) → q ≡ last_of None a → Out m (cut_out m k q p) k p (a ++ b)
place_out m k q p [] b v lk e la = rw la (first_out m k p b v lk e)
place_out m k q' p (x ∷ a) b v lk e la = rw (la, s.1) record {
  linked = cut_linked m (row_of m) k q p x a b v.linked lk e s.2;
  place = c.0;
  loose = cut_loose m k q p v.linked.size c.0;
  less = ap (length {A = ℕ}) e ∙ omega (arith, length-append a (p ∷ b), length-append a b);
  kept = λ i d. cut_data m k q p i lk lq c.0 d;
}
  where
    s : (q : ℕ) × (last_of (Some x) a ≡ Some q) × Last q (x ∷ a)
    s = last_some x a

    q : ℕ
    q = s.0

    r : Run m k (head m k) (x ∷ (a ++ (p ∷ b)))
    r = subst (Run m k (head m k)) e (v.linked.row k lk).run

    c : (p < 32) × (owner m p ≡ k) × (p ≢ q) × NotIn p b
    c = cut_place m k (head m k) q p x a b r s.2

    lq : q < 32
    lq = (last_within m k (head m k) q x a (p ∷ b) r s.2).0

-- ---- and put into a row

-- in front, or at the end
abbrev pub joins : {A : Type 0} → Bool → A → List A → List A
joins true x l = x ∷ l
joins false x l = l ++ (x ∷ [])

abbrev pub put_in : Bool → List ℕ → ℕ → ℕ → List ℕ
put_in true m k p = put_first m k p
put_in false m k p = put_last m k p

put_in_linked : (f : Bool) (m : List ℕ) (R : ℕ → List ℕ) (k p : ℕ) → Linked m R → k < 67 → p < 32 → 67 ≤ owner m p → Linked (put_in f m k p) (put k (joins f p (R k)) R)
put_in_linked true m R k p v lk lp o = push_first m R k p v lk lp o
put_in_linked false m R k p v lk lp o = push_last m R k p v lk lp o

put_in_data : (f : Bool) (m : List ℕ) (k p i : ℕ) → k < 67 → p < 32 → 198 ≤ i → get_or (put_in f m k p) i 0 ≡ get_or m i 0
put_in_data true m k p i lk lp d = first_data m k p i lk lp d
put_in_data false m k p i lk lp d = last_data m k p i lk lp d

joins_length : {A : Type 0} (f : Bool) (x : A) (l : List A) → length (joins f x l) ≡ suc (length l)
joins_length true x l = refl
joins_length false x l = omega (arith, length-append l (x ∷ []))

-- taken out of row k, written to, put into row j
pub record Carried (m m₂ m' : List ℕ) (k j p : ℕ) (f : Bool) (l : List ℕ) : Type 0 where
  pub sound : SoundRows m'
  pub rows : (i : ℕ) → i < 67 → row_of m' i ≡ put j (joins f p (put k l (row_of m) j)) (put k l (row_of m)) i
  pub kept : (i : ℕ) → 198 ≤ i → get_or m' i 0 ≡ get_or m₂ i 0

pub carry : (f : Bool) (m m₁ m₂ : List ℕ) (k j p : ℕ) (l : List ℕ) → SoundRows m → k < 67 → j < 67 → Out m m₁ k p l → SameLinks m₁ m₂ → Carried m m₂ (put_in f m₂ j p) k j p f l
carry f m m₁ m₂ k j p l v lk lj o s =
    let R : ℕ → List ℕ = put k l (row_of m) in
    let a : Linked m₂ R = same_linked m₁ m₂ R s o.linked in
    let n : 67 ≤ owner m₂ p = let x = s.links (32 + p) (omega (arith, o.place)) in let y = o.loose in omega arith in
    let b : Linked (put_in f m₂ j p) (put j (joins f p (R j)) R) = put_in_linked f m₂ R j p a lj o.place n in
    let t : total 67 (put j (joins f p (R j)) R) ≡ 32 =
    omega (arith, total_put 67 j (joins f p (R j)) R lj, total_put 67 k l (row_of m) lk, joins_length f p (R j), o.less, v.every_place) in
    record {
      sound = shown (put_in f m₂ j p) (put j (joins f p (R j)) R) b t;
      rows = rows_found (put_in f m₂ j p) (put j (joins f p (R j)) R) b t;
      kept = λ i d. put_in_data f m₂ j p i lj o.place d;
    }

-- ---- what is read along the rows afterwards

map_joins : {A B : Type 0} (g : A → B) (f : Bool) (x : A) (l : List A) → map g (joins f x l) ≡ joins f (g x) (map g l)
map_joins g true x l = refl
map_joins g false x l = map_snoc g l x

-- where what is read at every other place is as it was, only p's own is new
module _ {A : Type 0} {m m₁ m₂ m' : List ℕ} {k j p : ℕ} {f : Bool} {l : List ℕ}
    (o : Out m m₁ k p l) (c : Carried m m₂ m' k j p f l) (g' g : ℕ → A) (e : (x : ℕ) → x < 32 → x ≢ p → g' x ≡ g x)
  where
    read_others : (i : ℕ) → i < 67 → map g' (put k l (row_of m) i) ≡ map g (put k l (row_of m) i)
    read_others i h =
        map_run m₁ i (head m₁ i) g' g (put k l (row_of m) i)
        (λ x lx ox. e x lx (λ z. let y : owner m₁ x ≡ owner m₁ p = ap (owner m₁) z in let w = o.loose in omega arith))
        (o.linked.row i h).run

    -- along the row that it was put into
    pub read_there : j < 67 → map g' (row_of m' j) ≡ joins f (g' p) (map g (put k l (row_of m) j))
    read_there h =
        ap (map g') (c.rows j h ∙ put_same j (joins f p (put k l (row_of m) j)) (put k l (row_of m)))
        ∙ (map_joins g' f p (put k l (row_of m) j) ∙ ap (joins f (g' p)) (read_others j h))

    -- along another row
    pub read_elsewhere : (i : ℕ) → i < 67 → i ≢ j → map g' (row_of m' i) ≡ map g (put k l (row_of m) i)
    read_elsewhere i h n =
        ap (map g') (c.rows i h ∙ put_other j i (joins f p (put k l (row_of m) j)) (put k l (row_of m)) n) ∙ read_others i h

    -- along the row that it was taken from, and along a third one
    pub read_left : k < 67 → k ≢ j → map g' (row_of m' k) ≡ map g l
    read_left h n = read_elsewhere k h n ∙ ap (map g) (put_same k l (row_of m))

    pub read_same : (i : ℕ) → i < 67 → i ≢ j → i ≢ k → map g' (row_of m' i) ≡ map g (row_of m i)
    read_same i h n d = read_elsewhere i h n ∙ ap (map g) (put_other k i l (row_of m) d)

    pub read_joined : j < 67 → k ≢ j → map g' (row_of m' j) ≡ joins f (g' p) (map g (row_of m j))
    read_joined h n = read_there h ∙ ap (λ o. joins f (g' p) (map g o)) (put_other k j l (row_of m) (λ z. n (sym z)))
