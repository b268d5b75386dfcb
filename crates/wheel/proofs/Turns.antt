-- From what the desk promises to what the wheel promises. Assumes nothing.
use Prim.Native.Nat.{ℕ}
use mathlib.Core.Path.{◌≡◌, refl, sym, ap, ◌∙◌, subst}
use mathlib.Core.List.{List, []}
use Rattle.board.specs.declared.Unit.{Unit}
use Rattle.std.specs.Prelude.{Option, Some, None}
use Rattle.board.specs.declared.Sent.{Sent}
use Rattle.board.specs.declared.Sending.{Sending}
use Rattle.board.specs.Board.{the_unit, Board}
use Rattle.board.specs.Answers.{sending_says, Stepped}
use Rattle.board.specs.Sending.{after}
use Rattle.board.specs.Calls.{send, step}
use Rattle.board.specs.Sends as the
use Rattle.board.proofs.Sends as every
use Rattle.desk.specs.View.{Rest, the_rest, view, Valid}
use Rattle.desk.specs.Promise.{Does}
use Rattle.desk.specs.Promise as desk
use Rattle.wheel.specs.declared.Wheel.{Wheel}
use Rattle.wheel.specs.Turned.{mark_after, Ticks, Sends}

-- ---- the mark that `step` leaves is the one that the answer tells

told_mark : (b : Board) (s : Stepped) → the.Sends b s → (x : Option Sent) (n : ℕ) → sending_says (record { sent = x; looked = n }) ≡ s.answer → s.board.mark ≡ the_unit (mark_after x b.mark.0)
told_mark b s (the.full h) (Some x) n e = cc
told_mark b s (the.full h) None n e = refl
told_mark b s (the.nobody h f) (Some x) n e = cc
told_mark b s (the.nobody h f) None n e = refl
told_mark b s (the.first_eligible k q more h from to f t w) (Some x) n e = let p : x.unit ≡ after b.mark k = cc in sym p
told_mark b s (the.first_eligible k q more h from to f t w) None n e = cc

module _ (m m' : List ℕ) (clock mark given : ℕ) (u : Unit) (a : Sending) (d : Does m m' (the_rest clock (the_unit mark) given) (the_rest clock u given) send (sending_says a) []) where
  abbrev r : Rest
  r = the_rest clock (the_unit mark) given

  same_mark : Valid m r → u ≡ the_unit (mark_after a.sent mark)
  unfolding view
  same_mark v = ap (λ (b : Board). b.mark) (d.board v) ∙ told_mark (view m r) (step (view m r) send) (every.sends (view m r)) a.sent a.looked (d.says v)

  pub marked : Does m m' (the_rest clock (the_unit mark) given) (the_rest clock (the_unit (mark_after a.sent mark)) given) send (sending_says a) []
  marked = record {
    valid = λ v. subst (λ (k : Unit). Valid m' (the_rest clock k given)) (same_mark v) (d.valid v);
    board = λ v. subst (λ (k : Unit). view m' (the_rest clock k given) ≡ (step (view m r) send).board) (same_mark v) (d.board v);
    says = d.says;
    lent = d.lent;
    untouched = d.untouched;
  }

-- ---- the wheel with one field changed

abbrev pub with_clock : Wheel → ℕ → Wheel
with_clock w n = record { clock = n; mark = w.mark }

abbrev pub with_mark : Wheel → ℕ → Wheel
with_mark w n = record { clock = w.clock; mark = n }

pub ticks : (m m' : List ℕ) (w : Wheel) (r : ℕ) → desk.Ticks m m' w.clock r → Ticks m m' w (with_clock w r) r
ticks m m' w r d = record { clock = refl; second = d.second; mark = refl; does = d.does (the_unit w.mark) }

pub sends : (m m' : List ℕ) (w : Wheel) (a : Sending) (u : Unit) → desk.Sends m m' w.clock (the_unit w.mark) u (sending_says a) → Sends m m' w (with_mark w (mark_after a.sent w.mark)) a
sends m m' w a u d = record {
  clock = refl;
  mark = refl;
  idle = d.idle;
  does = λ given. marked m m' w.clock w.mark given u a (d.does given);
}
