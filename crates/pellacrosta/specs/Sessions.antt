-- C's calls one after the other: each is a call of the board, or is refused by the library and changes nothing. So any number of them is a
-- session of the desk, of which demand 3 holds (Desk, in the desk's Session). proofs/InC.antt proves it. Assumes nothing.
use Rattle.std.specs.Prelude.{ℕ, ◌≡◌, List, [], ◌∷◌, ◌++◌, Result, Ok, Err, if◌then◌else◌}
use Rattle.board.specs.Plain.{◌<?◌}
use Rattle.board.specs.declared.Ticket.{Ticket}
use Rattle.board.specs.declared.Event.{Event}
use Rattle.board.specs.declared.Unit.{Unit}
use Rattle.board.specs.Answers.{Answer, done, taking_in_says, aborting_says, freezing_says, looking_says, handing_back_says}
use Rattle.board.specs.Calls.{Call}
use Rattle.board.specs.Calls as call
use Rattle.desk.specs.View.{Rest, the_rest}
use Rattle.desk.specs.Promise.{Does, Freezes, HandsBack, TakesIn}
use Rattle.desk.specs.Session.{Session}
use Rattle.wheel.specs.declared.Wheel.{Wheel}
use Rattle.wheel.specs.Turned.{rest_of, Sends, Ticks}
use Rattle.pellacrosta.specs.declared.Unclear.{Unclear}
use Rattle.pellacrosta.specs.declared.Taken.{Taken}
use Rattle.pellacrosta.specs.declared.Sent.{Sent}
use Rattle.pellacrosta.specs.declared.First.{First}
use Rattle.pellacrosta.specs.declared.Handed.{Handed}
use Rattle.pellacrosta.specs.Forms.{as_taken, not_taken, as_sent, not_sent, as_aborted, as_frozen, as_first, not_found, as_handed, not_handed}
use Rattle.pellacrosta.specs.Exported.{desk_words, Exported, Given, Alone, Reports}

-- which calls of the board are made: none where the library refuses, with 201 for the words, or with 202 to 204 for what is no event
abbrev pub with_words : (words : ℕ) → List Call → List Call
with_words words calls = if words <? desk_words then [] else calls

abbrev pub reporting : Ticket → Result Event Unclear → (moved : ℕ) → List Call
reporting t (Ok e) moved = call.event t e moved ∷ []
reporting t (Err why) moved = []

-- from the words m and the rest r to m' and r', by one of C's calls: a call of the board, or none and nothing is altered
pub data Made (m m' : List ℕ) (r r' : Rest) : List Call → Type 0 where
  called : (c : Call) (a : Answer) (lent : List ℕ) → Does m m' r r' c a lent → Made m m' r r' (c ∷ [])
  refused : m' ≡ m → r' ≡ r → Made m m' r r' []

-- made one after the other, from m and r to m' and r'
pub data AllMade (m' : List ℕ) (r' : Rest) : List ℕ → Rest → List Call → Type 0 where
  over : AllMade m' r' m' r' []
  after : (m n : List ℕ) (r s : Rest) (calls later : List Call) → Made m n r s calls → AllMade m' r' n s later → AllMade m' r' m r (calls ++ later)

-- a session of the desk by these calls, from m and r to m' and r'
pub record DeskSession (m' : List ℕ) (r' : Rest) (m : List ℕ) (r : Rest) (calls : List Call) : Type 0 where
  pub answers : List Answer
  pub blocks : List (List ℕ)
  pub session : Session m' r' m r calls answers blocks

pub record InC : Type 1 where
  -- what each exported function promises (but `pella_fresh`, which begins)
  pub take_in : {m m' s s' : List ℕ} {words given given' : ℕ} {r : Taken} (clock : ℕ) (mark : Unit)
      → Exported words ((r ≡ not_taken 201) × (m' ≡ m) × (s' ≡ s) × (given' ≡ given)) (Given as_taken r (λ a. TakesIn m m' s s' given given' (taking_in_says a)))
      → Made m m' (the_rest clock mark given) (the_rest clock mark given') (with_words words (call.take_in s ∷ []))
  pub send : {m m' : List ℕ} {w w' : Wheel} {words : ℕ} {r : Sent} (given : ℕ)
      → Exported words ((r ≡ not_sent 201 0) × (m' ≡ m) × (w' ≡ w)) (Given as_sent r (Sends m m' w w'))
      → Made m m' (rest_of w given) (rest_of w' given) (with_words words (call.send ∷ []))
  pub report : {m m' : List ℕ} {words : ℕ} (t : Ticket) (e : Result Event Unclear) (moved r : ℕ) (rest : Rest)
      → Exported words ((r ≡ 201) × (m' ≡ m)) (Reports m m' t e moved r)
      → Made m m' rest rest (with_words words (reporting t e moved))
  pub abort : {m m' : List ℕ} {words r : ℕ} {t : Ticket} (rest : Rest)
      → Exported words ((r ≡ 201) × (m' ≡ m)) (Given as_aborted r (λ a. Alone m m' (call.abort t) (aborting_says a)))
      → Made m m' rest rest (with_words words (call.abort t ∷ []))
  pub freeze_or_release : {m m' : List ℕ} {words r : ℕ} {u : Unit} {c : Call} (rest : Rest)
      → Exported words ((r ≡ 201) × (m' ≡ m)) (Given as_frozen r (λ a. Freezes m m' u c (freezing_says a)))
      → Made m m' rest rest (with_words words (c ∷ []))
  pub tick : {m m' : List ℕ} {w w' : Wheel} {words r : ℕ} (given : ℕ)
      → Exported words ((r ≡ 201) × (m' ≡ m) × (w' ≡ w)) ((r ≡ 0) × Ticks m m' w w' w'.clock)
      → Made m m' (rest_of w given) (rest_of w' given) (with_words words (call.tick ∷ []))
  pub reset : {m m' : List ℕ} {words r : ℕ} (rest : Rest)
      → Exported words ((r ≡ 201) × (m' ≡ m)) ((r ≡ 0) × Alone m m' call.reset done)
      → Made m m' rest rest (with_words words (call.reset ∷ []))
  pub look : {m : List ℕ} {words : ℕ} {r : First} (rest : Rest)
      → Exported words (r ≡ not_found 201) (Given as_first r (λ a. Alone m m call.look (looking_says a)))
      → Made m m rest rest (with_words words (call.look ∷ []))
  pub hand_back : {m m' s s' : List ℕ} {words : ℕ} {r : Handed} (rest : Rest)
      → Exported words ((r ≡ not_handed 201) × (m' ≡ m) × (s' ≡ s)) (Given as_handed r (λ a. HandsBack m m' s s' (handing_back_says a)))
      → Made m m' rest rest (with_words words (call.hand_back s ∷ []))
  -- any number of them is a session of the desk by these calls: all that `Desk` says of sessions holds
  pub session : {m m' : List ℕ} {r r' : Rest} {calls : List Call} → AllMade m' r' m r calls → DeskSession m' r' m r calls
