-- Calls made one after the other on a memory, each keeping its promise; and demand 3 of the desk itself. It speaks of promises alone,
-- of no code. proofs/Sessions.antt proves it. Assumes nothing.
use Rattle.std.specs.Prelude.{◌≡◌, ℕ, false, ◌≢◌, List, [], ◌∷◌, Some}
use Rattle.board.specs.declared.Ticket.{Ticket}
use Rattle.board.specs.declared.Unit.{Unit}
use Rattle.board.specs.declared.Active.{Active}
use Rattle.board.specs.declared.Event.{Event}
use Rattle.board.specs.Plain.{Each}
use Rattle.board.specs.Board.{the_unit, find, ticket_of_active, fresh}
use Rattle.board.specs.Answers.{Answer}
use Rattle.board.specs.Sending.{busy}
use Rattle.board.specs.Calls.{Call, send, event, freeze, release, reset, step, Ran, run}
use Rattle.board.specs.Demand3.{Accounted, Freezes, NotARelease, NotSentFor, SameButFreeze, SameRecords, thinned}
use Rattle.desk.specs.View.{Rest, the_rest, view, Valid}
use Rattle.desk.specs.Promise.{Does, Fresh}

-- from the words m and the rest r, by these calls, with these answers and these lent blocks' bytes, to m' and r'
pub data Session (m' : List ℕ) (r' : Rest) : List ℕ → Rest → List Call → List Answer → List (List ℕ) → Type 0 where
  over : Session m' r' m' r' [] [] []
  after : (m n : List ℕ) (r s : Rest) (c : Call) (a : Answer) (lent : List ℕ) (calls : List Call) (answers : List Answer) (blocks : List (List ℕ))
      → Does m n r s c a lent
      → Session m' r' n s calls answers blocks
      → Session m' r' m r (c ∷ calls) (a ∷ answers) (lent ∷ blocks)

-- what goes in by value on a fresh board: clock 0, mark 63, no ticket given
abbrev pub start : Rest
start = the_rest 0 (the_unit 63) 0

-- what the desk shows at the end, and what it said
abbrev pub ran : (m : List ℕ) → Rest → List Answer → List (List ℕ) → Ran
ran m r answers blocks = record { board = view m r; answers = answers; blocks = blocks }

pub record Desk : Type 1 where
  -- on a memory that `fresh` made, the board shown, the answers and the bytes are those of `run fresh`
  pub runs : {m m' : List ℕ} {r' : Rest} {calls : List Call} {answers : List Answer} {blocks : List (List ℕ)}
      → Fresh m
      → Session m' r' m start calls answers blocks
      → ran m' r' answers blocks ≡ run fresh calls
  -- and it is valid still
  pub stays_valid : {m m' : List ℕ} {r' : Rest} {calls : List Call} {answers : List Answer} {blocks : List (List ℕ)}
      → Fresh m
      → Session m' r' m start calls answers blocks
      → Valid m' r'
  -- only one outcome fits: the answer, the bytes and the board shown
  pub one_answer : {m n n' : List ℕ} {r s s' : Rest} {c : Call} {a a' : Answer} {lent lent' : List ℕ} → Valid m r → Does m n r s c a lent → Does m n' r s' c a' lent' → a ≡ a'
  pub one_block : {m n n' : List ℕ} {r s s' : Rest} {c : Call} {a a' : Answer} {lent lent' : List ℕ} → Valid m r → Does m n r s c a lent → Does m n' r s' c a' lent' → lent ≡ lent'
  pub one_board : {m n n' : List ℕ} {r s s' : Rest} {c : Call} {a a' : Answer} {lent lent' : List ℕ} → Valid m r → Does m n r s c a lent → Does m n' r s' c a' lent' → view n s ≡ view n' s'
  -- demand 3: every ticket ever accepted stands in exactly one place
  pub accounted : {m m' : List ℕ} {r' : Rest} {calls : List Call} {answers : List Answer} {blocks : List (List ℕ)}
      → Fresh m
      → Session m' r' m start calls answers blocks
      → Accounted (ran m' r' answers blocks)
  -- between a unit's freeze and its release nothing is sent for it
  pub quiet : {m n n' m' : List ℕ} {r s r' : Rest} {earlier later : List Call} {answers said : List Answer} {blocks lents : List (List ℕ)} {c : Call} {a : Answer} {lent : List ℕ} (u : Unit)
      → Fresh m
      → Session n r m start earlier answers blocks
      → Freezes (view n r) u c
      → Does n n' r s c a lent
      → Session m' r' n' s later said lents
      → Each (NotARelease u) later
      → Each (NotSentFor u) said
  -- freezing or releasing alters no other unit's records, by call, by an event or by a bus reset
  pub freeze_alone : {m n : List ℕ} {r s : Rest} {a : Answer} {lent : List ℕ} (u : Unit) → Valid m r → Does m n r s (freeze u) a lent → SameButFreeze u (view m r) (view n s)
  pub release_alone : {m n : List ℕ} {r s : Rest} {a : Answer} {lent : List ℕ} (u : Unit) → Valid m r → Does m n r s (release u) a lent → SameButFreeze u (view m r) (view n s)
  pub event_alone : {m n : List ℕ} {r s : Rest} {a : Answer} {lent : List ℕ} (t : Ticket) (e : Event) (moved : ℕ) (x : Active) (v : Unit)
      → Valid m r
      → find ticket_of_active t (view m r).active ≡ Some x
      → v ≢ x.request.unit
      → Does m n r s (event t e moved) a lent
      → SameRecords v (view m r) (view n s)
  pub reset_alone : {m n : List ℕ} {r s : Rest} {a : Answer} {lent : List ℕ} (v : Unit) → Valid m r → busy v (view m r).active ≡ false → Does m n r s reset a lent → SameRecords v (view m r) (view n s)
  -- each send picks what it would pick if the frozen units' waiting requests weren't there
  pub same_answer : {m n : List ℕ} {r s : Rest} {a : Answer} {lent : List ℕ} → Valid m r → Does m n r s send a lent → (step (thinned (view m r)) send).answer ≡ a
  pub same_pick : {m n : List ℕ} {r s : Rest} {a : Answer} {lent : List ℕ} → Valid m r → Does m n r s send a lent → (step (thinned (view m r)) send).board ≡ thinned (view n s)
