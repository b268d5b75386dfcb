-- How an exported call keeps its promise: it is refused for its words, or does its work. Assumes nothing.
use Prim.Native.Nat.{ℕ, ◌≤◌, ◌<◌, min}
use mathlib.Core.Path.{◌≡◌, sym, subst}
use mathlib.Core.List.{List}
use native.Mathlib.Omega.{arith}
use Rattle.board.specs.declared.Ticket.{Ticket}
use Rattle.board.specs.declared.Unit as unit
use Rattle.board.specs.declared.UnableToAbort.{UnableToAbort}
use Rattle.board.specs.Answers.{Answer, abort_number}
use Rattle.board.specs.Board.{Board, the_unit}
use Rattle.board.specs.Calls.{Call, step}
use Rattle.desk.specs.Promise.{Freezes}
use Rattle.desk.proofs.Views.{does_as}
use Rattle.wheel.specs.declared.Wheel.{Wheel}
use Rattle.wheel.specs.Turned.{Ticks}
use Rattle.std.specs.Prelude.{Result, Ok, Err, MatchResult}
use Rattle.board.specs.declared.Event.{Event}
use Rattle.pellacrosta.specs.declared.Unclear.{Unclear}
use Rattle.pellacrosta.specs.Forms.{as_aborted}
use Rattle.pellacrosta.specs.Exported.{desk_words, Exported, Reports}

pub refuses : {words : ℕ} {refused works : Type 0} → words < desk_words → refused → Exported words refused works
refuses h x = record { short = λ _. x; lent = λ k. absurd (omega (arith, h, k)) }

pub works : {words : ℕ} {refused works : Type 0} → desk_words ≤ words → works → Exported words refused works
works h x = record { short = λ k. absurd (omega (arith, h, k)); lent = λ _. x }

-- a tick answers the wheel's clock
pub ticks_to_its_clock : (m m' : List ℕ) (w w' : Wheel) (r : ℕ) → Ticks m m' w w' r → Ticks m m' w w' w'.clock
ticks_to_its_clock m m' w w' r d = subst (λ (k : ℕ). Ticks m m' w w' k) (sym d.clock) d

-- an abort's number is its answer in C's form
pub aborted_form : (a : Result Unit UnableToAbort) (r : ℕ) → MatchResult a (λ done. r ≡ 0) (λ why. r ≡ abort_number why) → r ≡ as_aborted a
aborted_form (Ok done) r e = e
aborted_form (Err why) r e = e

-- a report, by what its numbers mean
pub reports : (m m' : List ℕ) (t : Ticket) (moved r : ℕ) {k k' : Result Event Unclear} → k ≡ k' → Reports m m' t k moved r → Reports m m' t k' moved r
reports m m' t moved r e = subst (λ (k : Result Event Unclear). Reports m m' t k moved r) e

-- a freeze or a release by a number in 8 bits is that of the number itself
pub freezes_numbered : (m m' : List ℕ) (u : unit.Unit) (n : ℕ) (a : Answer) {c c' : Call} → u.0 ≡ min n 255 → ((b : Board) → step b c ≡ step b c') → Freezes m m' u c a → Freezes m m' (the_unit n) c' a
freezes_numbered m m' u n a {c} {c'} e same d = record {
  does = λ r. does_as c c' same (d.does r);
  no_unit = λ h. d.no_unit (omega (arith, e, h));
  only_then = λ k z. let h = d.only_then k z in omega (arith, e, h);
}
