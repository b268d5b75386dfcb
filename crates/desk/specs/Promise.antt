-- What each call promises. Assumes nothing.
use Rattle.std.specs.Prelude.{◌≡◌, ℕ, suc, ◌%◌, ◌^◌, ◌≤◌, List, [], length}
use Rattle.board.specs.declared.Ticket.{Ticket}
use Rattle.board.specs.declared.Unit.{Unit}
use Rattle.board.specs.declared.Told.{Told}
use Rattle.board.specs.Answers.{Answer, refused, taken, nothing, handed, time}
use Rattle.board.specs.Block.{with_status, with_told}
use Rattle.board.specs.Board.{the_unit, units, fresh}
use Rattle.board.specs.Calls.{Call, take_in, send, tick, hand_back, step}
use Rattle.desk.specs.View.{Rest, the_rest, view, Valid}

-- From the words m and the rest r to m' and r', by this call, with this answer, the lent block's bytes being s' then. A valid memory
-- stays valid; the board that it shows, the answer and the bytes are `step`'s. And of EVERY memory, whatever it holds: a refusal leaves
-- every word as it was.
pub record Does (m m' : List ℕ) (r r' : Rest) (c : Call) (a : Answer) (s' : List ℕ) : Type 0 where
  pub valid : Valid m r → Valid m' r'
  pub board : Valid m r → view m' r' ≡ (step (view m r) c).board
  pub says : Valid m r → a ≡ (step (view m r) c).answer
  pub lent : Valid m r → s' ≡ (step (view m r) c).lent
  pub untouched : (n : ℕ) → a ≡ refused n → m' ≡ m

-- Hand back, with the lent block's bytes s before and s' after. Of EVERY memory: a refusal writes nothing, and where a request is handed
-- back its block is told what the answer says, and no other byte is written.
pub record HandsBack (m m' s s' : List ℕ) (a : Answer) : Type 0 where
  pub does : (r : Rest) → Does m m' r r (hand_back s) a s'
  pub unwritten : (n : ℕ) → a ≡ refused n → s' ≡ s
  pub written : (t : Ticket) (x : Told) → a ≡ handed t x → s' ≡ with_told x s

-- Taking in, from the words m, the lent bytes s and the last ticket given to m', s' and given', with this answer: `step`, whatever the
-- clock and the mark. And of EVERY memory, whatever it holds: a refusal writes its number to byte 7 and nothing else, and gives no
-- ticket; an accepted request has the next ticket, and 00h is written to byte 7 and nothing else; no byte is added.
pub record TakesIn (m m' s s' : List ℕ) (given given' : ℕ) (a : Answer) : Type 0 where
  pub does : (clock : ℕ) (mark : Unit) → Does m m' (the_rest clock mark given) (the_rest clock mark given') (take_in s) a s'
  pub byte_7 : (n : ℕ) → a ≡ refused n → s' ≡ with_status n s
  pub no_ticket : (n : ℕ) → a ≡ refused n → given' ≡ given
  pub byte_7_clear : (t : Ticket) → a ≡ taken t → s' ≡ with_status 0x00 s
  pub next_ticket : (t : Ticket) → a ≡ taken t → (t.0 ≡ suc given) × (given' ≡ suc given)
  pub size : length s' ≡ length s

-- A freeze or a release of unit u. And of EVERY memory: it is refused with 103 exactly where the unit is above 63.
pub record Freezes (m m' : List ℕ) (u : Unit) (c : Call) (a : Answer) : Type 0 where
  pub does : (r : Rest) → Does m m' r r c a []
  pub no_unit : units ≤ u.0 → a ≡ refused 103
  pub only_then : (n : ℕ) → a ≡ refused n → units ≤ u.0

-- A send, from this clock and this mark to mark': `step`, whatever the last ticket given. And of EVERY memory: "nothing" leaves every
-- word as it was.
pub record Sends (m m' : List ℕ) (clock : ℕ) (mark mark' : Unit) (a : Answer) : Type 0 where
  pub does : (given : ℕ) → Does m m' (the_rest clock mark given) (the_rest clock mark' given) send a []
  pub idle : (n : ℕ) → a ≡ nothing n → m' ≡ m

-- A tick, from this clock to the clock r: `step`, whatever the mark and the last ticket given. And of EVERY memory: r is the next second.
pub record Ticks (m m' : List ℕ) (clock r : ℕ) : Type 0 where
  pub does : (mark : Unit) (given : ℕ) → Does m m' (the_rest clock mark given) (the_rest r mark given) tick (time r) []
  pub second : r ≡ suc clock % 2 ^ 32

-- A fresh board: with clock 0, mark 63 and no ticket given, the words are valid and show a fresh board.
pub record Fresh (m : List ℕ) : Type 0 where
  pub valid : Valid m (the_rest 0 (the_unit 63) 0)
  pub board : view m (the_rest 0 (the_unit 63) 0) ≡ fresh
