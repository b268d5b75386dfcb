-- Bytes fed to a replay, a line at a time. Assumes nothing.
use Prim.Native.Nat.{ℕ, suc, ◌+◌, ◌-◌, ◌<◌, ◌≤◌, min}
use native.Mathlib.Omega.{arith}
use mathlib.Core.Path.{◌≡◌, sym, ap, ◌∙◌}
use mathlib.Core.Logic.{◌≢◌}
use mathlib.Core.List.{List, [], ◌∷◌, ◌++◌, append_assoc, append-nil}
use lib.ListN.{length, get_or, take, drop, take-append-drop, length-drop}
use Rattle.std.specs.List.{between, copy_within}
use Rattle.std.proofs.lemmas.Slice.{between_is}
use Rattle.std.proofs.lemmas.List.Edits.{length-between, get_or-between}
use lib.Seq.{paste, take-paste, take-take, take_all, drop-cons, drop-drop, get_or-drop, length-take-le}
use Rattle.board.specs.Plain.{◌=?◌, ◌≤?◌}
use Rattle.board.proofs.Choose.{if_ind, by_cases, same, at_most, not_at_most}
use Rattle.replay_log.specs.Replay.{State, answer}
use Rattle.replay_log.specs.Memory.{Memory, shown, Holds}
use Rattle.feed.specs.Feeding.{after, fed, Feeds}
use Rattle.feed.specs.LineEnds.{Clear, Appends, SoFar}

-- ---- bytes without a line feed, and a line

abbrev NoFeed : List ℕ → Type 0
NoFeed l = (i : ℕ) → i < length l → get_or l i 0 ≢ 10

-- they only make the line longer
fed_clear : (s : State) (k l : List ℕ) → NoFeed l → fed s k l ≡ record { state = s; line = k ++ l; text = [] }
unfolding fed
fed_clear s k [] f = ap (λ (x : List ℕ). record { state = s; line = x; text = [] }) (sym (append-nil k))
fed_clear s k (c ∷ cs) f =
    if_ind (λ x. x ≡ record { state = s; line = k ++ (c ∷ cs); text = [] }) (c =? 10) (after (answer s k).text (fed (answer s k).state [] cs)) (fed s (k ++ (c ∷ [])) cs)
    (λ e. absurd (f 0 (omega arith) (same e)))
    (λ e. fed_clear s (k ++ (c ∷ [])) cs (λ i h. f (suc i) (omega arith)) ∙ ap (λ (x : List ℕ). record { state = s; line = x; text = [] }) (append_assoc k (c ∷ []) cs))

-- and a line feed after them ends it
fed_line : (s : State) (k l more : List ℕ) → NoFeed l → fed s k (l ++ (10 ∷ more)) ≡ after (answer s (k ++ l)).text (fed (answer s (k ++ l)).state [] more)
unfolding fed
fed_line s k [] more f = ap (λ (x : List ℕ). after (answer s x).text (fed (answer s x).state [] more)) (sym (append-nil k))
fed_line s k (c ∷ cs) more f =
    if_ind (λ x. x ≡ after (answer s (k ++ (c ∷ cs))).text (fed (answer s (k ++ (c ∷ cs))).state [] more)) (c =? 10) (after (answer s k).text (fed (answer s k).state [] (cs ++ (10 ∷ more)))) (fed s (k ++ (c ∷ [])) (cs ++ (10 ∷ more)))
    (λ e. absurd (f 0 (omega arith) (same e)))
    (λ e. fed_line s (k ++ (c ∷ [])) cs more (λ i h. f (suc i) (omega arith)) ∙ ap (λ (x : List ℕ). after (answer s x).text (fed (answer s x).state [] more)) (append_assoc k (c ∷ []) cs))

-- ---- a line within a buffer

part_clear : (s : List ℕ) (a e : ℕ) → e ≤ length s → Clear s a e → NoFeed (between a e s)
part_clear s a e g c i h z =
    let size = length-between s a e g in
    c.clear (a + i) (omega arith) (omega arith) (sym (get_or-between s a e i 0 (omega arith)) ∙ z)

drop_clear : (s : List ℕ) (a : ℕ) → Clear s a (length s) → NoFeed (drop a s)
drop_clear s a c i h z = let d = length-drop a s in c.clear (a + i) (omega arith) (omega arith) (sym (get_or-drop a s i 0) ∙ z)

-- from a on, a buffer is the line up to its line feed at e, the line feed, and the rest
cut_line : (s : List ℕ) (a e : ℕ) → a ≤ e → e < length s → get_or s e 0 ≡ 10 → drop a s ≡ between a e s ++ (10 ∷ drop (e + 1) s)
cut_line s a e h g z =
    let k : a + (e - a) ≡ e = omega arith in
    let n : suc e ≡ e + 1 = omega arith in
    sym (take-append-drop (e - a) (drop a s))
    ∙ ap (λ (x : List ℕ). between a e s ++ x)
    (drop-drop (e - a) a s
    ∙ (ap (λ (j : ℕ). drop j s) k
    ∙ (drop-cons s e 0 g
    ∙ (ap (λ (x : ℕ). x ∷ drop (suc e) s) z ∙ ap (λ (j : ℕ). 10 ∷ drop j s) n))))

-- ---- the lines so far

pub one_more : (m₀ m m' : Memory) (s out out' : List ℕ) (a e : ℕ) → a ≤ e → e < length s → Clear s a e → get_or s e 0 ≡ 10
    → SoFar m₀ m s a out
    → Appends m m' (between a e s) out out'
    → SoFar m₀ m' s (e + 1) out'
one_more m₀ m m' s out out' a e l g c z so_far appends = record {
  holds = λ h. appends.holds (so_far.holds h);
  whole = λ h.
      let k = so_far.holds h in
      let line = between a e s in
      let more = drop (e + 1) s in
      so_far.whole h
      ∙ (ap (λ (x : List ℕ). after out (fed (shown m) [] x)) (cut_line s a e l g z)
      ∙ (ap (after out) (fed_line (shown m) [] line more (part_clear s a e (omega arith) c))
      ∙ (ap (λ (x : State). after out (after (answer (shown m) line).text (fed x [] more))) (sym (appends.state k))
      ∙ (ap (λ (x : List ℕ). record { state = (fed (shown m') [] more).state; line = (fed (shown m') [] more).line; text = x }) (sym (append_assoc out (answer (shown m) line).text (fed (shown m') [] more).text))
      ∙ ap (λ (x : List ℕ). after x (fed (shown m') [] more)) (sym (appends.says k))))));
}

-- ---- a piece

-- the lines so far are all the whole ones, and what stands over was kept
pub fed_piece : (m m' : Memory) (s left text : List ℕ) (at : ℕ) → Clear s at (length s) → SoFar m m' s at text → left ≡ take 401 (drop at s) → Feeds m m' s left text
fed_piece m m' s left text at c so_far k = record {
  holds = so_far.holds;
  state = λ h. sym (ap (λ x. x.state) (all h));
  says = λ h. sym (append-nil text) ∙ sym (ap (λ x. x.text) (all h));
  keeps = λ h. k ∙ ap (λ x. take 401 x.line) (sym (all h));
}
  where
    all : Holds m → fed (shown m) [] s ≡ record { state = shown m'; line = drop at s; text = text ++ [] }
    all h = so_far.whole h ∙ ap (after text) (fed_clear (shown m') [] (drop at s) (drop_clear s at c))

-- what is kept of the bytes from a on, of a buffer of which the first e count
pub kept_over : (buf now : List ℕ) (a e n : ℕ) → take e buf ≡ now → a ≤ length now → e ≤ length buf → n ≡ min (e - a) 401 → take n (copy_within buf a (a + n) 0) ≡ take 401 (drop a now)
kept_over buf now a e n v h g z =
    let r = length-take-le e buf g in
    let j : length (take e buf) ≡ length now = ap length v in
    let d = length-drop a buf in
    let k : a + n - a ≡ n = omega arith in
    let l = length-take-le (e - a) (drop a buf) (omega arith) in
    let o : 0 + n ≡ n = omega arith in
    let first : take n (paste buf 0 (drop a buf) n) ≡ take 401 (take (e - a) (drop a buf)) =
    ap (λ (j : ℕ). take j (paste buf 0 (drop a buf) n)) (sym o) ∙ take-paste buf 0 (drop a buf) n (omega arith) (omega arith)
    ∙ sym (take-take n (e - a) (drop a buf) (omega arith))
    ∙ (by_cases (e - a ≤? 401)
    (λ c. let o : e - a ≤ 401 = at_most c in take_all n _ (omega arith) ∙ sym (take_all 401 _ (omega arith)))
    (λ c. let o : 401 < e - a = not_at_most c in let m : n ≡ 401 = omega arith in ap (λ (j : ℕ). take j (take (e - a) (drop a buf))) m)) in
    rw k (first ∙ ap (take 401) (between_is buf a e ∙ ap (drop a) v))
