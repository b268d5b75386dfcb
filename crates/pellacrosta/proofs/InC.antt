-- C's calls one after the other are a session of the desk. Assumes nothing.
use Rattle.std.specs.Prelude.{if◌then◌else◌}
use Prim.Native.Nat.{ℕ}
use mathlib.Core.Path.{refl, sym, ap, subst}
use mathlib.Core.Bool.{Bool}
use mathlib.Core.List.{List, [], ◌∷◌, ◌++◌}
use Rattle.board.specs.declared.Ticket.{Ticket}
use Rattle.board.specs.Plain.{◌<?◌}
use Rattle.board.specs.Calls.{Call}
use Rattle.board.proofs.Choose.{by_cases, below, not_below}
use Rattle.desk.specs.View.{Rest, the_rest}
use Rattle.desk.specs.Session.{over, after}
use Rattle.wheel.specs.declared.Wheel.{Wheel}
use Rattle.wheel.specs.Turned.{rest_of}
use Rattle.std.specs.Prelude.{Result, Ok, Err}
use Rattle.board.specs.declared.Event.{Event}
use Rattle.pellacrosta.specs.declared.Unclear.{Unclear}
use Rattle.pellacrosta.specs.Exported.{desk_words, Exported, Reports}
use Rattle.pellacrosta.specs.Sessions.{with_words, reporting, Made, called, refused, AllMade, DeskSession, InC}
use Rattle.pellacrosta.specs.Sessions as in_C_only

-- with too few words no call is made, and with enough these are
either : {m m' : List ℕ} {r r' : Rest} (calls : List Call) {words : ℕ} {few works : Type 0} → Exported words few works
    → (few → Made m m' r r' []) → (works → Made m m' r r' calls) → Made m m' r r' (with_words words calls)
either {m} {m'} {r} {r'} calls {words} x f g =
    let by : Bool → Type 0 = λ t. Made m m' r r' (if t then [] else calls) in
    by_cases (words <? desk_words) (λ e. subst by (sym e) (f (x.short (below e)))) (λ e. subst by (sym e) (g (x.lent (not_below e))))

-- one of C's calls before a session
before : {m' : List ℕ} {r' : Rest} (m n : List ℕ) (r s : Rest) (calls later : List Call) → Made m n r s calls → DeskSession m' r' n s later → DeskSession m' r' m r (calls ++ later)
before m n r s calls later (called c a lent d) x = record { answers = a ∷ x.answers; blocks = lent ∷ x.blocks; session = after m n r s c a lent later x.answers x.blocks d x.session }
before {m'} {r'} m n r s calls later (refused e q) x = subst (λ (z : List ℕ). DeskSession m' r' z r later) e (subst (λ (z : Rest). DeskSession m' r' n z later) q x)

all_of : {m' : List ℕ} {r' : Rest} {m : List ℕ} {r : Rest} {calls : List Call} → AllMade m' r' m r calls → DeskSession m' r' m r calls
all_of in_C_only.over = record { answers = []; blocks = []; session = over }
all_of (in_C_only.after m n r s calls later x xs) = before m n r s calls later x (all_of xs)

reported : (m m' : List ℕ) (t : Ticket) (moved r : ℕ) (e : Result Event Unclear) (rest : Rest) → Reports m m' t e moved r → Made m m' rest rest (reporting t e moved)
reported m m' t moved r (Ok e) rest x = called _ _ _ (x.keeps rest)
reported m m' t moved r (Err why) rest x = refused x.1 refl

pub in_C : InC
in_C = record {
  take_in = λ clock mark x. either _ x (λ f. refused f.1 (ap (the_rest clock mark) f.3)) (λ w. called _ _ _ (w.keeps.does clock mark));
  send = λ given x. either _ x (λ f. refused f.1 (ap (λ (w : Wheel). rest_of w given) f.2)) (λ w. called _ _ _ (w.keeps.does given));
  report = λ t e moved r rest x. either _ x (λ f. refused f.1 refl) (λ w. reported _ _ t moved r e rest w);
  abort = λ rest x. either _ x (λ f. refused f.1 refl) (λ w. called _ _ _ (w.keeps rest));
  freeze_or_release = λ rest x. either _ x (λ f. refused f.1 refl) (λ w. called _ _ _ (w.keeps.does rest));
  tick = λ given x. either _ x (λ f. refused f.1 (ap (λ (w : Wheel). rest_of w given) f.2)) (λ w. called _ _ _ (w.1.does given));
  reset = λ rest x. either _ x (λ f. refused f.1 refl) (λ w. called _ _ _ (w.1 rest));
  look = λ rest x. either _ x (λ f. refused refl refl) (λ w. called _ _ _ (w.keeps rest));
  hand_back = λ rest x. either _ x (λ f. refused f.1 refl) (λ w. called _ _ _ (w.keeps.does rest));
  session = all_of;
}
