-- However a log is cut into pieces, its answers are the replay of the whole. Assumes nothing.
use Rattle.std.specs.Prelude.{if◌then◌else◌}
use Prim.Native.Nat.{ℕ, zero, suc}
use native.Mathlib.Omega.{arith}
use mathlib.Core.Path.{◌≡◌, refl, sym, ap, ◌∙◌, subst}
use mathlib.Core.Logic.{◌≢◌}
use mathlib.Core.Bool.{Bool, true, false}
use mathlib.Core.List.{List, [], ◌∷◌, ◌++◌, append_assoc, append-nil}
use lib.ListN.{take}
use lib.Seq.{take-take}
use Rattle.board.specs.Plain.{◌=?◌, Each}
use Rattle.board.proofs.Choose.{if_ind, same, differ}
use Rattle.board.proofs.Weigh.{each_append}
use Rattle.lines.specs.Text.{onto}
use Rattle.lines.proofs.Overlong.{parse_cut}
use Rattle.answers.specs.Answer.{head}
use Rattle.replay_log.specs.Replay.{State, fresh_state, Answered, respond, answer, lines, answers, replay}
use Rattle.replay_log.specs.Memory.{Memory, shown, Holds}
use Rattle.feed.specs.Feeding.{Fed, after, fed, last_answer, Ends, Through, start, turn, joined, WholeLog}

-- ---- fed at once

-- all the answers, that to a last line without a line feed too
abbrev finished : Fed → List ℕ
finished f = f.text ++ last_answer f.state f.line

-- a line that has begun before the lines of the rest
unfoldable begun : List ℕ → List (List ℕ) → List (List ℕ)
begun [] ls = ls
begun (c ∷ cs) [] = (c ∷ cs) ∷ []
begun (c ∷ cs) (l ∷ more) = ((c ∷ cs) ++ l) ∷ more

begun_onto : (k : List ℕ) (c : ℕ) (ls : List (List ℕ)) → begun (k ++ (c ∷ [])) ls ≡ begun k (onto c ls)
unfolding begun onto
begun_onto [] c [] = refl
begun_onto [] c (l ∷ more) = refl
begun_onto (a ∷ k) c [] = refl
begun_onto (a ∷ k) c (l ∷ more) = ap (λ (x : List ℕ). (a ∷ x) ∷ more) (append_assoc k (c ∷ []) l)

begun_ended : (k : List ℕ) (ls : List (List ℕ)) → begun k ([] ∷ ls) ≡ k ∷ ls
unfolding begun
begun_ended [] ls = refl
begun_ended (a ∷ k) ls = ap (λ (x : List ℕ). (a ∷ x) ∷ ls) (append-nil k)

-- the answers to a log are those to its bytes, one after the other
fed_lines : (s : State) (k input : List ℕ) → finished (fed s k input) ≡ answers s (begun k (lines input))
unfolding fed lines answers begun
fed_lines s [] [] = refl
fed_lines s (c ∷ k) [] = sym (append-nil (answer s (c ∷ k)).text)
fed_lines s k (c ∷ cs) = go (c =? 10) (fed_lines (answer s k).state [] cs) (fed_lines s (k ++ (c ∷ [])) cs)
  where
    t : List ℕ
    t = (answer s k).text

    n : State
    n = (answer s k).state

    go : (b : Bool) → finished (fed n [] cs) ≡ answers n (lines cs) → finished (fed s (k ++ (c ∷ [])) cs) ≡ answers s (begun (k ++ (c ∷ [])) (lines cs))
        → finished (if b then after t (fed n [] cs) else fed s (k ++ (c ∷ [])) cs) ≡ answers s (begun k (if◌then◌else◌ {A = List (List ℕ)} b ([] ∷ lines cs) (onto c (lines cs))))
    go true ended longer =
        append_assoc t (fed n [] cs).text (last_answer (fed n [] cs).state (fed n [] cs).line)
        ∙ (ap (λ (x : List ℕ). t ++ x) ended ∙ ap (answers s) (sym (begun_ended k (lines cs))))
    go false ended longer = longer ∙ ap (answers s) (begun_onto k c (lines cs))

-- ---- fed in two pieces

fed_append : (s : State) (k a b : List ℕ) → fed s k (a ++ b) ≡ after (fed s k a).text (fed (fed s k a).state (fed s k a).line b)
unfolding fed
fed_append s k [] b = refl
fed_append s k (c ∷ cs) b = go (c =? 10) (fed_append (answer s k).state [] cs b) (fed_append s (k ++ (c ∷ [])) cs b)
  where
    t : List ℕ
    t = (answer s k).text

    n : State
    n = (answer s k).state

    in_two : Fed → Fed
    in_two f = after f.text (fed f.state f.line b)

    go : (d : Bool) → fed n [] (cs ++ b) ≡ in_two (fed n [] cs) → fed s (k ++ (c ∷ [])) (cs ++ b) ≡ in_two (fed s (k ++ (c ∷ [])) cs)
        → (if d then after t (fed n [] (cs ++ b)) else fed s (k ++ (c ∷ [])) (cs ++ b))
        ≡ in_two (if d then after t (fed n [] cs) else fed s (k ++ (c ∷ [])) cs)
    go true ended longer =
        let f = fed n [] cs in
        let g = fed f.state f.line b in
        ap (after t) ended ∙ ap (λ (x : List ℕ). record { state = g.state; line = g.line; text = x }) (sym (append_assoc t f.text g.text))
    go false ended longer = longer

-- ---- bytes without a line feed

abbrev Quiet : List ℕ → Type 0
Quiet l = Each (λ c. c ≢ 10) l

fed_behind : (s : State) (k l b : List ℕ) → Quiet l → fed s k (l ++ b) ≡ fed s (k ++ l) b
unfolding fed Each
fed_behind s k [] b q = ap (λ (x : List ℕ). fed s x b) (sym (append-nil k))
fed_behind s k (c ∷ l) b q =
    if_ind (λ x. x ≡ fed s (k ++ (c ∷ l)) b) (c =? 10) (after (answer s k).text (fed (answer s k).state [] (l ++ b))) (fed s (k ++ (c ∷ [])) (l ++ b))
    (λ e. absurd (q.0 (same e)))
    (λ e. fed_behind s (k ++ (c ∷ [])) l b q.1 ∙ ap (λ (x : List ℕ). fed s x b) (append_assoc k (c ∷ []) l))

-- what stands over has none
quiet_line : (s : State) (k b : List ℕ) → Quiet k → Quiet (fed s k b).line
unfolding fed Each
quiet_line s k [] q = q
quiet_line s k (c ∷ cs) q =
    if_ind (λ x. Quiet x.line) (c =? 10) (after (answer s k).text (fed (answer s k).state [] cs)) (fed s (k ++ (c ∷ [])) cs)
    (λ e. quiet_line (answer s k).state [] cs tt)
    (λ e. quiet_line s (k ++ (c ∷ [])) cs (each_append (λ x. x ≢ 10) k (c ∷ []) q (differ e, tt)))

quiet_take : (n : ℕ) (l : List ℕ) → Quiet l → Quiet (take n l)
unfolding Each
quiet_take zero l q = tt
quiet_take (suc n) [] q = tt
quiet_take (suc n) (c ∷ l) q = (q.0, quiet_take n l q.1)

-- ---- cutting at 401 bytes

-- the same up to 401 bytes
abbrev Alike : List ℕ → List ℕ → Type 0
Alike k l = take 401 k ≡ take 401 l

take_of_take : (n : ℕ) (k x : List ℕ) → take n (k ++ x) ≡ take n (take n k ++ x)
take_of_take zero k x = refl
take_of_take (suc n) [] x = refl
take_of_take (suc n) (c ∷ k) x = ap (λ (l : List ℕ). c ∷ l) (take_of_take n k x)

alike_longer : (k l x : List ℕ) → Alike k l → Alike (k ++ x) (l ++ x)
alike_longer k l x a = take_of_take 401 k x ∙ (ap (λ (y : List ℕ). take 401 (y ++ x)) a ∙ sym (take_of_take 401 l x))

-- a line that is cut is read as before
alike_answer : (s : State) (k l : List ℕ) → Alike k l → answer s k ≡ answer s l
alike_answer s k l a = ap (respond s) (parse_cut k l a)

alike_last : (s : State) (k l : List ℕ) → Alike k l → last_answer s k ≡ last_answer s l
alike_last s [] [] a = refl
alike_last s [] (c ∷ l) a = let z : ◌≡◌ {A = ℕ} 0 1 = cc in absurd (omega arith)
alike_last s (c ∷ k) [] a = let z : ◌≡◌ {A = ℕ} 0 1 = cc in absurd (omega arith)
alike_last s (c ∷ k) (d ∷ l) a = ap (λ x. x.text) (alike_answer s (c ∷ k) (d ∷ l) a)

alike_finished : (s : State) (k l b : List ℕ) → Alike k l → finished (fed s k b) ≡ finished (fed s l b)
unfolding fed
alike_finished s k l [] a = alike_last s k l a
alike_finished s k l (c ∷ cs) a = go (c =? 10) (alike_finished s (k ++ (c ∷ [])) (l ++ (c ∷ [])) cs (alike_longer k l (c ∷ []) a))
  where
    go : (d : Bool) → finished (fed s (k ++ (c ∷ [])) cs) ≡ finished (fed s (l ++ (c ∷ [])) cs)
        → finished (if d then after (answer s k).text (fed (answer s k).state [] cs) else fed s (k ++ (c ∷ [])) cs) ≡ finished (if d then after (answer s l).text (fed (answer s l).state [] cs) else fed s (l ++ (c ∷ [])) cs)
    go true longer = ap (λ (x : Answered). finished (after x.text (fed x.state [] cs))) (alike_answer s k l a)
    go false longer = longer

-- ---- the whole log

through : {m' : Memory} {left' : List ℕ} {m : Memory} {left : List ℕ} {pieces texts : List (List ℕ)} (last : List ℕ) → Holds m → Quiet left → Through m' left' m left pieces texts → Ends m' left' last
    → joined texts ++ last ≡ finished (fed (shown m) left (joined pieces))
unfolding joined fed
through last h q start e = e h
through last h q (turn m n left kept piece text pieces texts f more) e =
    append_assoc text (joined texts) last
    ∙ (ap (λ (x : List ℕ). text ++ x) (through last (f.holds h) quiet more e)
    ∙ (ap (λ (x : State). text ++ finished (fed x kept rest)) (f.state h ∙ ap (λ x. x.state) behind)
    ∙ (ap (λ (x : List ℕ). text ++ x) (alike_finished one.state kept one.line rest alike)
    ∙ (ap (λ (x : List ℕ). x ++ finished (fed one.state one.line rest)) (f.says h ∙ ap (λ x. x.text) behind)
    ∙ (sym (append_assoc one.text (fed one.state one.line rest).text (last_answer (fed one.state one.line rest).state (fed one.state one.line rest).line))
    ∙ ap finished (sym (fed_append (shown m) left piece rest)))))))
  where
    rest : List ℕ
    rest = joined pieces

    one : Fed
    one = fed (shown m) left piece

    behind : fed (shown m) [] (left ++ piece) ≡ one
    behind = fed_behind (shown m) [] left piece q

    cut : kept ≡ take 401 one.line
    cut = f.keeps h ∙ ap (λ x. take 401 x.line) behind

    alike : Alike kept one.line
    alike = ap (take 401) cut ∙ take-take 401 401 one.line (omega arith)

    quiet : Quiet kept
    quiet = subst Quiet (sym cut) (quiet_take 401 one.line (quiet_line (shown m) left piece q))

pub whole_log : WholeLog
unfolding Each replay begun
whole_log = record {
  replays = λ {m} {pieces = pieces} {last = last} b t e.
      ap (λ (x : List ℕ). head ++ x)
      (through last b.holds tt t e
      ∙ (ap (λ (s : State). finished (fed s [] (joined pieces))) b.state ∙ first (joined pieces)));
}
  where
    first : (input : List ℕ) → finished (fed fresh_state [] input) ≡ answers fresh_state (lines input)
    first input = fed_lines fresh_state [] input
