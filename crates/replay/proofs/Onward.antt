-- A fresh memory, and one more piece of input. Assumes nothing.
use Prim.Native.Nat.{ℕ}
use mathlib.Core.Path.{◌≡◌, ap, sym, ◌∙◌, subst}
use mathlib.Core.List.{List, [], ◌∷◌, ◌++◌}
use lib.ListN.{length, take, drop, take-append-drop}
use Rattle.replay_log.specs.Memory.{Memory}
use Rattle.replay_log.specs.Promise.{Begins}
use Rattle.feed.specs.Feeding.{Feeds, Through, start, turn}
use Rattle.replay.specs.Progress.{Progress}

-- one turn more at the end
one_more : {m n : Memory} {left left' begun text : List ℕ} {first : Memory} {pieces texts : List (List ℕ)} (piece : List ℕ) → Through m left first begun pieces texts → Feeds m n (left ++ piece) left' text
    → Through n left' first begun (pieces ++ (piece ∷ [])) (texts ++ (text ∷ []))
one_more piece start f = turn _ _ _ _ _ _ [] [] f start
one_more piece (turn m n left kept earlier text pieces texts g more) f = turn m n left kept earlier text _ _ g (one_more piece more f)

pub begun : {m : Memory} {left : List ℕ} → Begins m → left ≡ [] → Progress m left
begun {m} {left} b e = subst (Progress m) (sym e) record { first = m; begins = b; pieces = []; texts = []; through = start }

-- what was read behind what stood over was fed
pub onward : {m n : Memory} {left read left' text : List ℕ} → Progress m left → take (length left) read ≡ left → Feeds m n read left' text → Progress n left'
onward {m} {n} {left} {read} {left'} {text} p same f = let piece = drop (length left) read in record {
  first = p.first;
  begins = p.begins;
  pieces = p.pieces ++ (piece ∷ []);
  texts = p.texts ++ (text ∷ []);
  through = one_more piece p.through (subst (λ (b : List ℕ). Feeds m n b left' text) (sym (take-append-drop (length left) read) ∙ ap (λ (l : List ℕ). l ++ piece) same) f);
}
