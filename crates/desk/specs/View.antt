-- The board that the words show. Assumes nothing.
use Rattle.std.specs.Prelude.{ℕ, ◌+◌, ◌%◌, not, List, [], map, if◌then◌else◌}
use Rattle.board.specs.declared.Unit.{Unit}
use Rattle.board.specs.declared.Request.{Request}
use Rattle.board.specs.declared.Active.{Active}
use Rattle.board.specs.declared.Finished.{Finished}
use Rattle.board.specs.Plain.{◌=?◌, ◌<?◌}
use Rattle.board.specs.Board.{the_unit, the_ticket, units, Freeze, no_freeze, Board}
use Rattle.board.specs.Block.{signed}
use Rattle.board.specs.Limits.{Sound}
use Rattle.rows.specs.Words.{ticket_at}
use Rattle.rows.specs.Rows.{row_of, SoundRows}
use Rattle.desk.specs.Words.{field, address_at, freeze_at}

-- the request at place p: whatever the words hold, its numbers are in their range
abbrev pub request_at : List ℕ → ℕ → Request
request_at m p = record {
  ticket = the_ticket (ticket_at m p);
  unit = the_unit (field m p 0 % 64);
  address = address_at m p;
  callback = field m p 1;
  wanted = not (field m p 2 =? 0);
  length = field m p 3 % 0x1000000;
  sense = field m p 4 % 256;
  autosense = not (field m p 5 =? 0);
  timeout = field m p 6;
  cdb = record { first = field m p 7; second = field m p 8; third = field m p 9 };
}

abbrev pub active_at : List ℕ → ℕ → Active
active_at m p = record {
  request = request_at m p;
  start = field m p 10;
  asked = not (field m p 11 =? 0);
  overdue = not (field m p 12 =? 0);
}

abbrev pub finished_at : List ℕ → ℕ → Finished
finished_at m p = record {
  request = request_at m p;
  told = record { status = field m p 10 % 256; scsi = field m p 11 % 256; unsensed = field m p 12 % 256; residual = signed (field m p 13) };
}

-- what a freeze word says
unfoldable pub freeze_of : ℕ → Freeze
unfolding Freeze
freeze_of n = not (n =? 0)

-- Rows: 0 the free places, 1 the finished line, 2 the active requests in the order of sending, 3 + u the waiting order of unit u.
abbrev pub free : ℕ
free = 0

abbrev pub finished_row : ℕ
finished_row = 1

abbrev pub active_row : ℕ
active_row = 2

abbrev pub waiting_row : ℕ → ℕ
waiting_row u = 3 + u

-- what goes into the calls by value, and comes back: the clock, the rotation mark, the last ticket given
pub record Rest : Type 0 where
  pub clock : ℕ
  pub mark : Unit
  pub given : ℕ

abbrev pub the_rest : (clock : ℕ) → (mark : Unit) → (given : ℕ) → Rest
the_rest c k g = record { clock = c; mark = k; given = g }

unfoldable pub view : List ℕ → Rest → Board
view m r = record {
  waiting = λ u. if u.0 <? units then map (request_at m) (row_of m (waiting_row u.0)) else [];
  active = map (active_at m) (row_of m active_row);
  finished = map (finished_at m) (row_of m finished_row);
  freezes = λ u. if u.0 <? units then freeze_of (freeze_at m u.0) else no_freeze;
  clock = r.clock;
  mark = r.mark;
  given = r.given;
}

-- the rows are sound and hold every place, and the board that they show is a sound one
pub record Valid (m : List ℕ) (r : Rest) : Type 0 where
  pub rows : SoundRows m
  pub sound : Sound (view m r)
