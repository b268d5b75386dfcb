-- When the desk says no: exactly when, and what a refusal does. proofs/Refusals.antt proves it. Assumes nothing.
use Rattle.std.specs.Prelude.{◌≡◌, true, List, [], ◌∷◌, ℕ, ◌≤◌, Err, None, Some}
use Rattle.board.specs.Types.{Ticket, Unit, Active, Finished, Event}
use Rattle.board.specs.Plain.{◌=?◌, any}
use Rattle.board.specs.Board.{units, find, ticket_of_active, Board, all_waiting}
use Rattle.board.specs.Block.{with_status}
use Rattle.board.specs.Answers.{refused}
use Rattle.board.specs.TakingIn.{refuse, verdict}
use Rattle.board.specs.Ending.{ending}
use Rattle.board.specs.Calls.{not_its_block, Call, take_in, event, abort, freeze, release, hand_back, step}

-- The call on this board is refused with this number.
pub data No (b : Board) : Call → ℕ → Type 0 where
  -- 05h, 06h, 07h, 15h, 16h: taking in, as listed
  as_listed : (s : List ℕ) (n : ℕ) → verdict b s ≡ refuse n → No b (take_in s) n
  -- 03h: abort: finished or unknown ticket
  finished_or_unknown : (t : Ticket) → find (λ q. q.ticket) t (all_waiting b) ≡ None → find ticket_of_active t b.active ≡ None → No b (abort t) 0x03
  -- 101: event: ticket isn't active
  not_active : (t : Ticket) (e : Event) (moved : ℕ) → find ticket_of_active t b.active ≡ None → No b (event t e moved) 101
  -- 102: event: bytes moved above 7FFFFFFFh; sense looked at with more bytes than asked; abort done with neither mark
  implausible : (t : Ticket) (e : Event) (moved : ℕ) (a : Active) → find ticket_of_active t b.active ≡ Some a → ending a e moved ≡ Err (record {}) → No b (event t e moved) 102
  -- 103: freeze, release: unit above 63
  freeze_above_63 : (u : Unit) → units ≤ u.0 → No b (freeze u) 103
  release_above_63 : (u : Unit) → units ≤ u.0 → No b (release u) 103
  -- 104: hand back: finished line empty
  line_empty : (s : List ℕ) → b.finished ≡ [] → No b (hand_back s) 104
  -- 105: hand back: fewer than 88 bytes lent, or bytes 0 to 3 not the first one's address
  other_block : (s : List ℕ) (x : Finished) (more : List Finished) → b.finished ≡ x ∷ more → not_its_block s x ≡ true → No b (hand_back s) 105

pub record Refusals : Type 0 where
  -- refused with a number exactly when the table says so
  pub only_when : (b : Board) (c : Call) (n : ℕ) → (step b c).answer ≡ refused n → No b c n
  pub whenever : (b : Board) (c : Call) (n : ℕ) → No b c n → (step b c).answer ≡ refused n
  -- taking in has five numbers
  pub as_listed : (b : Board) (s : List ℕ) (n : ℕ) → verdict b s ≡ refuse n → any (λ m. m =? n) (0x05 ∷ 0x06 ∷ 0x07 ∷ 0x15 ∷ 0x16 ∷ []) ≡ true
  -- all change nothing
  pub board : (b : Board) (c : Call) (n : ℕ) → (step b c).answer ≡ refused n → (step b c).board ≡ b
  -- taking in writes the number to byte 7 and nothing else (check 1 nothing at all); all others write nothing
  pub taking_in : (b : Board) (s : List ℕ) (n : ℕ) → (step b (take_in s)).answer ≡ refused n → (step b (take_in s)).lent ≡ with_status n s
  pub handing_back : (b : Board) (s : List ℕ) (n : ℕ) → (step b (hand_back s)).answer ≡ refused n → (step b (hand_back s)).lent ≡ s
