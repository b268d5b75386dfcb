-- A short read: its block, and what the host sees of it. Assumes nothing.
use Rattle.std.specs.Prelude.{ℕ, Bool, true, false, ◌&&◌, List, replicate, set, pos, Some, None, Ok, Err}
use Rattle.board.specs.declared.Told.{Told}
use Rattle.board.specs.Plain.{◌=?◌}
use Rattle.board.specs.Block.{word}
use Rattle.board.specs.Board.{the_ticket, the_unit}
use Rattle.desk_main.specs.declared.Seen.{Seen}

-- ---- the block

-- 88 bytes: address 1000h, length 88, function 01h, target 1, LUN 1, direction in, data length 512, CDB length 6, CDB 08 00 00 00 01 00, timeout 30
unfoldable pub short_read : List ℕ
short_read = set (set (set (set (set (set (set (set (set (set (set (replicate 88 0) 1 0x10) 4 88) 6 0x01) 10 1) 11 1) 12 0x40) 37 2) 45 6) 60 0x08) 64 1) 72 30

-- handed back, it has status 01h and residual 12
unfoldable pub short_read_handed : List ℕ
short_read_handed = set (set short_read 7 0x01) 56 12

-- ---- what the host sees

-- status 01h, SCSI status 00h, no sense, and 512 - 500 bytes missing
abbrev pub short_read_told : Told
short_read_told = record { status = 0x01; scsi = 0x00; unsensed = 0; residual = pos 12 }

-- each call's answer: ticket 1 at each stage; unit 9 is the tenth after the mark 63
abbrev pub short_read_seen : Seen
short_read_seen = record {
  taken = Ok (the_ticket 1);
  sent = record {
    sent = Some (record { ticket = the_ticket 1; unit = the_unit 9; cdb = record { first = 0x08; second = 1; third = 0 } });
    looked = 10;
  };
  ended = Ok tt;
  first = Some (record { ticket = the_ticket 1; address = 0x1000; callback = 0; wanted = true });
  handed = Ok (record { ticket = the_ticket 1; told = short_read_told });
}

-- ---- what the program expects

-- status 01h, and 12 bytes are missing
abbrev pub is_short_by_12 : Told → Bool
is_short_by_12 x = x.status =? 0x01 && word x.residual =? 12

-- nothing is refused, ticket 1 at each stage, 10 units looked at, and the block is told of 12 missing bytes
abbrev pub as_expected : Seen → Bool
as_expected s =
    elim s.taken [ Ok t ↦ t.0 =? 1 | Err why ↦ false ]
    && (elim s.sent.sent [ Some x ↦ x.ticket.0 =? 1 | None ↦ false ] && s.sent.looked =? 10
    && (elim s.ended [ Ok done ↦ true | Err why ↦ false ]
    && (elim s.first [ Some x ↦ x.ticket.0 =? 1 | None ↦ false ]
    && elim s.handed [ Ok x ↦ x.ticket.0 =? 1 && is_short_by_12 x.told | Err why ↦ false ])))
