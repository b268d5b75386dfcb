-- The story by the definitions, and so by whatever keeps the desk's promises. Assumes nothing.
use Prim.Native.Nat.{ℕ, zero, suc}
use mathlib.Core.Path.{◌≡◌, refl, ap, ◌∙◌}
use mathlib.Core.List.{List, [], ◌∷◌}
use lib.ListN.{set}
use Rattle.board.specs.declared.Ticket.{Ticket}
use Rattle.board.specs.declared.Unit.{Unit}
use Rattle.board.specs.declared.Sense.TheVariants.{None}
use Rattle.board.specs.declared.Event.TheVariants.{Complete}
use Rattle.board.specs.Board.{the_ticket, the_unit, fresh}
use Rattle.board.specs.Answers.{Answer, sent, done, taking_in_says, sending_says, reporting_says, looking_says, handing_back_says}
use Rattle.board.specs.Calls.{Call, take_in, send, event, look, hand_back, run}
use Rattle.board.specs.Bench.{last}
use Rattle.board.proofs.Answers.{one_taking_in, one_sending, one_reporting, one_looking, one_handing_back}
use Rattle.board.proofs.Open.{all}
use Rattle.desk.specs.View.{Rest, the_rest}
use Rattle.desk.specs.Promise.{Does, HandsBack, TakesIn, Fresh}
use Rattle.desk.specs.Session.{Session, over, after, start, ran}
use Rattle.desk.proofs.Sessions.{desk}
use Rattle.desk_main.specs.declared.Seen.{Seen}
use Rattle.desk_main.specs.Story.{short_read, short_read_handed, short_read_seen}

-- ---- the calls, and their answers

-- a block is taken in and sent, 500 bytes move with SCSI status 00h, a look, and a block is handed back
abbrev calls : (lent : List ℕ) → Ticket → (lent_again : List ℕ) → List Call
calls s t s' = take_in s ∷ send ∷ event t (Complete 0x00 None) 500 ∷ look ∷ hand_back s' ∷ []

-- accepted, the block has status 00h
unfoldable accepted : List ℕ
accepted = set short_read 7 0x00

-- what the answers seen say
abbrev pub says : Seen → List Answer
says x = taking_in_says x.taken ∷ sending_says x.sent ∷ reporting_says x.ended ∷ looking_says x.first ∷ handing_back_says x.handed ∷ []

-- the bytes lent first; the answer after n others
abbrev front : List (List ℕ) → List ℕ
front [] = []
front (s ∷ more) = s

abbrev nth : List Answer → ℕ → Answer
nth [] n = done
nth (a ∷ more) zero = a
nth (a ∷ more) (suc n) = nth more n

-- only one thing seen says what it says
pub one_seen : (x y : Seen) → says x ≡ says y → x ≡ y
one_seen x y e = λ i. record {
  taken = one_taking_in x.taken y.taken (ap (λ l. nth l 0) e) i;
  sent = one_sending x.sent y.sent (ap (λ l. nth l 1) e) i;
  ended = one_reporting x.ended y.ended (ap (λ l. nth l 2) e) i;
  first = one_looking x.first y.first (ap (λ l. nth l 3) e) i;
  handed = one_handing_back x.handed y.handed (ap (λ l. nth l 4) e) i;
}

-- the ticket that is sent, if one is
abbrev pub ticket_in : Answer → Ticket
ticket_in (sent t u cdb n) = t
ticket_in a = the_ticket 0

-- ---- by the definitions

first_two_answers : (run fresh (take_in short_read ∷ send ∷ [])).answers ≡ taking_in_says short_read_seen.taken ∷ sending_says short_read_seen.sent ∷ []
unfolding all short_read
first_two_answers = refl

first_two_blocks : (run fresh (take_in short_read ∷ send ∷ [])).blocks ≡ accepted ∷ [] ∷ []
unfolding all short_read accepted
first_two_blocks = refl

all_answers : (run fresh (calls short_read (the_ticket 1) accepted)).answers ≡ says short_read_seen
unfolding all short_read accepted
all_answers = refl

last_bytes : last [] (run fresh (calls short_read (the_ticket 1) accepted)).blocks ≡ short_read_handed
unfolding all short_read short_read_handed accepted
last_bytes = refl

-- ---- by the promises

-- What taking in and sending promise, from the words m0 that `fresh` made to m2, with the bytes lent s and s' and the answers a1 and a2. The
-- block was the short read's.
module _ {m0 m1 m2 s s' : List ℕ} {given : ℕ} {mark : Unit} {a1 a2 : Answer}
    (begins : Fresh m0)
    (takes_in : TakesIn m0 m1 s s' 0 given a1)
    (sends : (g : ℕ) → Does m1 m2 (the_rest 0 (the_unit 63) g) (the_rest 0 mark g) send a2 [])
    (its_block : s ≡ short_read) where
  abbrev then : Rest
  then = the_rest 0 mark given

  takes_and_sends : {m : List ℕ} {later : List Call} {said : List Answer} {lents : List (List ℕ)}
      → Session m then m2 then later said lents
      → Session m then m0 start (take_in s ∷ send ∷ later) (a1 ∷ a2 ∷ said) (s' ∷ [] ∷ lents)
  takes_and_sends rest =
      after m0 m1 start (the_rest 0 (the_unit 63) given) (take_in s) a1 s' _ _ _ (takes_in.does 0 (the_unit 63))
      (after m1 m2 (the_rest 0 (the_unit 63) given) then send a2 [] _ _ _ (sends given) rest)

  runs_two : ran m2 then (a1 ∷ a2 ∷ []) (s' ∷ [] ∷ []) ≡ run fresh (take_in short_read ∷ send ∷ [])
  runs_two = desk.runs begins (takes_and_sends over) ∙ ap (λ x. run fresh (take_in x ∷ send ∷ [])) its_block

  -- ticket 1 is sent
  pub sends_1 : a2 ≡ sending_says short_read_seen.sent
  sends_1 = ap (λ x. nth x.answers 1) runs_two ∙ ap (λ l. nth l 1) first_two_answers

  accepts : s' ≡ accepted
  accepts = ap (λ x. front x.blocks) runs_two ∙ ap front first_two_blocks

  -- And what the calls after them promise, on to the words m4, with the bytes s'' at last and the answers a3 to a5. The ticket reported on is the
  -- one that was sent.
  module _ {m3 m4 s'' : List ℕ} {t : Ticket} {a3 a4 a5 : Answer}
      (reports : (r : Rest) → Does m2 m3 r r (event t (Complete 0x00 None) 500) a3 [])
      (looks : (r : Rest) → Does m3 m3 r r look a4 [])
      (hands_back : HandsBack m3 m4 s' s'' a5)
      (its_ticket : t ≡ ticket_in a2) where
    session : Session m4 then m0 start (calls s t s') (a1 ∷ a2 ∷ a3 ∷ a4 ∷ a5 ∷ []) (s' ∷ [] ∷ [] ∷ [] ∷ s'' ∷ [])
    session =
        takes_and_sends
        (after m2 m3 then then (event t (Complete 0x00 None) 500) a3 [] _ _ _ (reports then)
        (after m3 m3 then then look a4 [] _ _ _ (looks then)
        (after m3 m4 then then (hand_back s') a5 s'' _ _ _ (hands_back.does then) over)))

    runs : ran m4 then (a1 ∷ a2 ∷ a3 ∷ a4 ∷ a5 ∷ []) (s' ∷ [] ∷ [] ∷ [] ∷ s'' ∷ []) ≡ run fresh (calls short_read (the_ticket 1) accepted)
    runs =
        let ticket : t ≡ the_ticket 1 = its_ticket ∙ ap ticket_in sends_1 in
        desk.runs begins session ∙ (λ i. run fresh (calls (its_block i) (ticket i) (accepts i)))

    pub told : (a1 ∷ a2 ∷ a3 ∷ a4 ∷ a5 ∷ [] ≡ says short_read_seen) × (s'' ≡ short_read_handed)
    told = (ap (λ x. x.answers) runs ∙ all_answers, ap (λ x. last [] x.blocks) runs ∙ last_bytes)
