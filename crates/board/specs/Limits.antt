-- What holds of every board that calls make of a fresh one, and is kept by every call. proofs/Limits.antt proves it. Assumes nothing.
use Rattle.std.specs.Prelude.{◌≡◌, List, [], ℕ, suc, ◌≤◌, ◌<◌, ◌^◌, length, ℤ, pos, negsuc}
use Rattle.board.specs.Types.{Ticket, Unit, Request}
use Rattle.board.specs.Plain.{◌=?◌, count, Each}
use Rattle.board.specs.Board.{same_unit, same_ticket, units, places, most_active, last_ticket, Board, fresh, live}
use Rattle.board.specs.Calls.{Call, step, run}

-- a live request: its ticket is from 1 to the last given; its target is at most 6; its data length is at most FFFFFFh
pub record Fits (b : Board) (q : Request) : Type 0 where
  pub ticket_from_1 : 1 ≤ q.ticket.0
  pub ticket_given : q.ticket.0 ≤ b.given
  pub unit : q.unit.0 < 56
  pub length : q.length ≤ 0xFFFFFF

-- a residual: at most FFFFFFh, and exact down to -2,147,483,647
abbrev pub InRange : ℤ → Type 0
InRange (pos n) = n ≤ 0xFFFFFF
InRange (negsuc n) = suc n ≤ 2147483647

pub record Limits (b : Board) : Type 0 where
  -- at most 32 live
  pub within : length (live b) ≤ places
  -- at most 8 active, at most one per unit
  pub at_once : length b.active ≤ most_active
  pub one_per_unit : (u : Unit) → count (λ a. same_unit a.request.unit u) b.active ≤ 1
  pub mark : b.mark.0 < units
  pub clock : b.clock < 2 ^ 32
  pub given : b.given ≤ last_ticket
  -- addresses of live requests are distinct, and so are their tickets
  pub addresses : (address : ℕ) → count (λ q. q.address =? address) (live b) ≤ 1
  pub tickets : (t : Ticket) → count (λ q. same_ticket q.ticket t) (live b) ≤ 1
  pub each : Each (Fits b) (live b)
  pub starts : Each (λ a. a.start < 2 ^ 32) b.active
  pub residuals : Each (λ x. InRange x.told.residual) b.finished
  -- nothing waits on a number that is no unit
  pub nowhere_else : (u : Unit) → units ≤ u.0 → b.waiting u ≡ []

-- the limits hold, and what waits, waits on its own unit
pub record Sound (b : Board) : Type 0 where
  pub limits : Limits b
  pub own_unit : (u : Unit) → Each (λ q. q.unit ≡ u) (b.waiting u)

-- a fresh board is sound, and every call leaves a sound board sound; so the limits hold after any calls
pub record Soundness : Type 0 where
  pub fresh_sound : Sound fresh
  pub step_sound : (b : Board) (c : Call) → Sound b → Sound (step b c).board
  pub after_any_calls : (calls : List Call) → Limits (run fresh calls).board
