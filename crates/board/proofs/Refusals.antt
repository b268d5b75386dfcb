-- When each call is refused, and what a refusal does. Assumes nothing.
use Rattle.std.specs.Prelude.{Option, Some, None, Result, Ok, Err}
use mathlib.Core.Path.{◌≡◌, refl, subst}
use mathlib.Core.Bool.{true}
use mathlib.Core.List.{List, [], ◌∷◌}
use Prim.Native.Nat.{ℕ, ◌≤◌}
use lib.ListN.{length}
use Rattle.board.specs.Types.{Ticket, Unit, Request, Active, Finished, Found, Event, End, Implausible}
use Rattle.board.specs.Plain.{◌=?◌, ◌<?◌, ◌≤?◌, Row, ◌⇒◌, first_that_applies, any, Each}
use Rattle.board.specs.Board.{units, find, ticket_of_active, most_active, Freeze, one_freeze, one_release, freeze_number, Board, all_waiting, with_freeze}
use Rattle.board.specs.Block.{with_status}
use Rattle.board.specs.Answers.{Answer, refused, taken, sent, nothing, done, before, time, first, empty, handed, Stepped, says}
use Rattle.board.specs.TakingIn.{Verdict, refuse, accept, checks_of_block, checks_of_board, verdict, judged, taking_in}
use Rattle.board.specs.Sending.{eligible, rotation, sent_first, sent_by, sending}
use Rattle.board.specs.Ending.{ending, reported_by, reported, reporting}
use Rattle.board.specs.Calls.{asked, aborted, aborting, freezing, ticking, resetting, first_of, looking, not_its_block, first_to, handing_back, Call, take_in, send, event, abort, freeze, release, tick, reset, look, hand_back, step}
use Rattle.board.specs.Refusals.{No, as_listed, finished_or_unknown, not_active, implausible, freeze_above_63, release_above_63, line_empty, other_block, Refusals}
use Rattle.board.proofs.Choose.{if_ind, not_below, unless_below}

-- the number of an answer that says no
abbrev said_no : Answer → List ℕ
said_no (refused n) = n ∷ []
said_no (taken t) = []
said_no (sent t u cdb n) = []
said_no (nothing n) = []
said_no done = []
said_no (before n) = []
said_no (time n) = []
said_no (first t address callback wanted) = []
said_no empty = []
said_no (handed t x) = []

-- what is to be said of a call that was refused with n
record Right (b : Board) (c : Call) (s : Stepped) (n : ℕ) : Type 0 where
  when : No b c n
  board : s.board ≡ b

abbrev SaysNo : Board → Call → Stepped → Type 0
SaysNo b c s = Each (Right b c s) (said_no s.answer)

-- a call that refuses with n, and changes nothing
no : (b : Board) (c : Call) (n : ℕ) (s : List ℕ) → No b c n → SaysNo b c record { board = b; answer = refused n; lent = s }
unfolding Each
no b c n s k = (record { when = k; board = refl }, tt)

-- ---- taking in

-- the number is one of the five
abbrev Listed : ℕ → Type 0
Listed n = any (λ m. m =? n) (0x05 ∷ 0x06 ∷ 0x07 ∷ 0x15 ∷ 0x16 ∷ []) ≡ true

abbrev ListedRow : Row Verdict → Type 0
ListedRow (test ⇒ refuse n) = Listed n
ListedRow (test ⇒ accept) = ⊥

abbrev ListedVerdict : Verdict → Type 0
ListedVerdict (refuse n) = Listed n
ListedVerdict accept = Prim.Unit {0}

-- what the first row that applies says is what one of the rows says
listed : (rows : List (Row Verdict)) → Each ListedRow rows → ListedVerdict (first_that_applies rows accept)
unfolding first_that_applies Each
listed [] k = tt
listed ((test ⇒ refuse n) ∷ rows) k = if_ind ListedVerdict test (refuse n) (first_that_applies rows accept) (λ e. k.0) (λ e. listed rows k.1)
listed ((test ⇒ accept) ∷ rows) k = absurd k.0

listed_checks : (b : Board) (s : List ℕ) → ListedVerdict (verdict b s)
unfolding verdict checks_of_block checks_of_board Each any
listed_checks b s = listed _ (refl, (refl, (refl, (refl, (refl, (refl, (refl, (refl, (refl, (refl, (refl, tt)))))))))))

no_judged : (b : Board) (s : List ℕ) (v : Verdict) → verdict b s ≡ v → SaysNo b (take_in s) (judged b s v)
unfolding judged Each
no_judged b s (refuse n) e = no b (take_in s) n _ (as_listed s n e)
no_judged b s accept e = tt

lent_judged : (b : Board) (s : List ℕ) (v : Verdict) → Each (λ n. (judged b s v).lent ≡ with_status n s) (said_no (judged b s v).answer)
unfolding judged Each
lent_judged b s (refuse n) = (refl, tt)
lent_judged b s accept = tt

-- ---- sending: never refused

no_first : (b : Board) (u : Unit) (n : ℕ) (l : List Request) → SaysNo b send (sent_first b u n l)
unfolding sent_first Each
no_first b u n [] = tt
no_first b u n (q ∷ more) = tt

no_by : (b : Board) (r : Option Found) → SaysNo b send (sent_by b r)
unfolding sent_by Each
no_by b None = tt
no_by b (Some x) = no_first b x.unit x.looked (b.waiting x.unit)

no_sending : (b : Board) → SaysNo b send (sending b)
unfolding sending Each
no_sending b = if_ind (SaysNo b send) (most_active ≤? length b.active) (says b (nothing 0)) (sent_by b (rotation (eligible b) b.mark units 1)) (λ e. tt) (λ e. no_by b _)

-- ---- an event

module _ (b : Board) (t : Ticket) (e : Event) (moved : ℕ) where
  no_reported_by : (a : Active) (x : Result End Implausible) → find ticket_of_active t b.active ≡ Some a → ending a e moved ≡ x → SaysNo b (event t e moved) (reported_by b a.request x)
  unfolding reported_by Each
  no_reported_by a (Err why) k m = no b (event t e moved) 102 [] (implausible t e moved a k m)
  no_reported_by a (Ok x) k m = tt

  no_reported : (o : Option Active) → find ticket_of_active t b.active ≡ o → SaysNo b (event t e moved) (reported b e moved o)
  unfolding reported Each
  no_reported None k = no b (event t e moved) 101 [] (not_active t e moved k)
  no_reported (Some a) k = no_reported_by a (ending a e moved) k refl

-- ---- abort

module _ (b : Board) (t : Ticket) where
  no_asked : (o : Option Active) → find (λ q. q.ticket) t (all_waiting b) ≡ None → find ticket_of_active t b.active ≡ o → SaysNo b (abort t) (asked b t o)
  unfolding asked Each
  no_asked None w k = no b (abort t) 0x03 [] (finished_or_unknown t w k)
  no_asked (Some a) w k = tt

  no_aborted : (o : Option Request) → find (λ q. q.ticket) t (all_waiting b) ≡ o → SaysNo b (abort t) (aborted b t o)
  unfolding aborted Each
  no_aborted None w = no_asked (find ticket_of_active t b.active) w refl
  no_aborted (Some q) w = tt

-- ---- the other calls

no_freezing : (change : Freeze → Freeze) (b : Board) (c : Call) (u : Unit) → (units ≤ u.0 → No b c 103) → SaysNo b c (freezing change b u)
unfolding freezing Each
no_freezing change b c u k =
    if_ind (SaysNo b c) (u.0 <? units) (says (with_freeze u (change (b.freezes u)) b) (before (freeze_number (b.freezes u)))) (says b (refused 103))
    (λ e. tt) (λ e. no b c 103 [] (k (not_below e)))

no_first_of : (b : Board) (l : List Finished) → SaysNo b look (first_of b l)
unfolding first_of Each
no_first_of b [] = tt
no_first_of b (x ∷ more) = tt

no_first_to : (b : Board) (s : List ℕ) (l : List Finished) → b.finished ≡ l → SaysNo b (hand_back s) (first_to b s l)
unfolding first_to Each
no_first_to b s [] k = no b (hand_back s) 104 s (line_empty s k)
no_first_to b s (x ∷ more) k =
    if_ind (SaysNo b (hand_back s)) (not_its_block s x) record { board = b; answer = refused 105; lent = s } _ (λ e. no b (hand_back s) 105 s (other_block s x more k e)) (λ e. tt)

lent_first_to : (b : Board) (s : List ℕ) (l : List Finished) → Each (λ n. (first_to b s l).lent ≡ s) (said_no (first_to b s l).answer)
unfolding first_to Each
lent_first_to b s [] = (refl, tt)
lent_first_to b s (x ∷ more) =
    if_ind (λ (r : Stepped). Each (λ n. r.lent ≡ s) (said_no r.answer)) (not_its_block s x) record { board = b; answer = refused 105; lent = s } _ (λ e. (refl, tt)) (λ e. tt)

-- ---- all of them

says_no : (b : Board) (c : Call) → SaysNo b c (step b c)
unfolding step taking_in reporting aborting ticking resetting looking handing_back Each
says_no b (take_in s) = no_judged b s (verdict b s) refl
says_no b send = no_sending b
says_no b (event t e moved) = no_reported b t e moved (find ticket_of_active t b.active) refl
says_no b (abort t) = no_aborted b t (find (λ q. q.ticket) t (all_waiting b)) refl
says_no b (freeze u) = no_freezing one_freeze b (freeze u) u (freeze_above_63 u)
says_no b (release u) = no_freezing one_release b (release u) u (release_above_63 u)
says_no b tick = tt
says_no b reset = tt
says_no b look = no_first_of b b.finished
says_no b (hand_back s) = no_first_to b s b.finished refl

-- the other way round

refused_freezing : (change : Freeze → Freeze) (b : Board) (u : Unit) → units ≤ u.0 → (freezing change b u).answer ≡ refused 103
unfolding freezing
refused_freezing change b u h = rw (unless_below h)

says_it : (b : Board) (c : Call) (n : ℕ) → No b c n → (step b c).answer ≡ refused n
unfolding step taking_in judged reporting reported reported_by aborting aborted asked handing_back first_to
says_it b c n (as_listed s m e) = rw (e, judged)
says_it b c n (finished_or_unknown t w k) = rw (w, aborted, k, asked)
says_it b c n (not_active t e moved k) = rw (k, reported)
says_it b c n (implausible t e moved a k m) = rw (k, reported, m, reported_by)
says_it b c n (freeze_above_63 u h) = refused_freezing one_freeze b u h
says_it b c n (release_above_63 u h) = refused_freezing one_release b u h
says_it b c n (line_empty s k) = rw (k, first_to)
says_it b c n (other_block s x more k e) = rw (k, first_to, e)

-- what is said of the number in an answer that says no, where that is known
of_the_number : (P : ℕ → Type 0) (a : Answer) (n : ℕ) → Each P (said_no a) → a ≡ refused n → P n
unfolding Each
of_the_number P a n k e = (subst (λ x. Each P (said_no x)) e k).0

pub refusals : Refusals
unfolding step taking_in handing_back
refusals = record {
  only_when = λ b c n e. (of_the_number (Right b c (step b c)) (step b c).answer n (says_no b c) e).when;
  whenever = says_it;
  as_listed = λ b s n e. subst ListedVerdict e (listed_checks b s);
  board = λ b c n e. (of_the_number (Right b c (step b c)) (step b c).answer n (says_no b c) e).board;
  taking_in = λ b s n e. of_the_number (λ m. (taking_in b s).lent ≡ with_status m s) (taking_in b s).answer n (lent_judged b s (verdict b s)) e;
  handing_back = λ b s n e. of_the_number (λ m. (handing_back b s).lent ≡ s) (handing_back b s).answer n (lent_first_to b s b.finished) e;
}
