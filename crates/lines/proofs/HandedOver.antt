-- The record, from what `parse_line` hands over and from the lent array as it leaves it: what a caller asks for in each arm of
-- a match on the line. Assumes nothing.
use Prim.Native.Nat.{ℕ, ◌+◌, ◌≤◌}
use mathlib.Core.Path.{◌≡◌, refl, sym, ap, ◌∙◌, subst}
use mathlib.Core.List.{List}
use Rattle.std.specs.Prelude.{Option, Some, None}
use native.Mathlib.Omega.{arith}
use lib.ListN.{length, take, drop}
use lib.Seq.{sets, sets-eq, length-sets, take-append_seam}
use Rattle.lines.specs.Record.{Record, submit, send, event, abort, freeze, release, tick, reset, hand_back, malformed, told, kept, room, Parsed}
use Rattle.lines.specs.declared.Line.{Line}
use Rattle.lines.specs.declared.Line.TheVariants as line

abbrev pub record_in : Option Line → (lent : List ℕ) → Record
record_in (Some (line.Submit n)) lent = submit (take n lent)
record_in (Some line.Send) lent = send
record_in (Some (line.Event t e n)) lent = event t e n
record_in (Some (line.Abort t)) lent = abort t
record_in (Some (line.Freeze u)) lent = freeze u
record_in (Some (line.Release u)) lent = release u
record_in (Some line.Tick) lent = tick
record_in (Some line.Reset) lent = reset
record_in (Some line.HandBack) lent = hand_back
record_in None lent = malformed

stored : (block lent : List ℕ) → length block ≤ length lent → take (length block) (sets lent 0 block) ≡ block
stored block lent h = ap (take (length block)) (sets-eq block lent 0 (omega arith)) ∙ take-append_seam block (drop (0 + length block) lent)

in_told : (r : Record) (lent : List ℕ) → length lent ≡ 200 → room (told r) → r ≡ record_in (told r) (kept r lent)
in_told (submit block) lent h k = ap submit (sym (stored block lent (subst (λ (n : ℕ). length block ≤ n) (sym h) k)))
in_told send lent h k = refl
in_told (event t e n) lent h k = refl
in_told (abort t) lent h k = refl
in_told (freeze u) lent h k = refl
in_told (release u) lent h k = refl
in_told tick lent h k = refl
in_told reset lent h k = refl
in_told hand_back lent h k = refl
in_told malformed lent h k = refl

pub record_handed : {r : Record} {lent lent' : List ℕ} {a : Option Line} → Parsed r lent lent' a → length lent ≡ 200 → r ≡ record_in a lent'
record_handed {r} {lent} {lent'} {a} p h =
    in_told r lent h (subst room p.says p.fits) ∙ ap (record_in (told r)) (sym p.array) ∙ ap (λ (x : Option Line). record_in x lent') (sym p.says)

-- the lent array keeps its size
kept_size : (r : Record) (lent : List ℕ) → length (kept r lent) ≡ length lent
kept_size (submit block) lent = length-sets lent 0 block
kept_size send lent = refl
kept_size (event t e n) lent = refl
kept_size (abort t) lent = refl
kept_size (freeze u) lent = refl
kept_size (release u) lent = refl
kept_size tick lent = refl
kept_size reset lent = refl
kept_size hand_back lent = refl
kept_size malformed lent = refl

pub same_size : {r : Record} {lent lent' : List ℕ} {a : Option Line} → Parsed r lent lent' a → length lent' ≡ length lent
same_size {r} {lent} p = ap (λ (l : List ℕ). length l) p.array ∙ kept_size r lent
