-- Cases of our own, for the sentences of document 01 that its bench cases pass over: each check, each row of the table of ends, each
-- refusal, abort, tick, look and hand back, and the readings of docs/DECISIONS.md. The definitions give them all
-- (proofs/Bench.antt). Assumes nothing.
use Rattle.std.specs.Prelude.{true, false, List, [], ◌∷◌, ◌++◌, ℕ, zero, suc, take, replicate, pos, negsuc}
use Rattle.std.proofs.lemmas.List.Edits.{sets}
use Rattle.board.specs.Types.{Bytes, Failed, None, Event, AbortDone, SelectionTimeout, Parity, BusFree, Phase, AdapterError, Complete}
use Rattle.board.specs.Board.{the_ticket, the_unit, Board, fresh, with_clock, with_given}
use Rattle.board.specs.Block.{bytes4}
use Rattle.board.specs.Answers.{refused, taken, sent, nothing, done, before, first, empty}
use Rattle.board.specs.Calls.{Call, take_in, send, event, abort, freeze, release, tick, reset, look, hand_back, run}
use Rattle.board.specs.Bench.{Case, case, plain, addressed, on_target, with_cdb_length, asking_sense, with_timeout, status, back, zeros, ended_by, good, check_condition, handed_back, on_lun}

-- ---- taking in

abbrev pub flagged : ℕ → List ℕ
flagged n = sets plain 12 (n ∷ [])

abbrev pub urgent : List ℕ → List ℕ
urgent s = sets s 13 (0x10 ∷ [])

-- a block that is refused with a number, or passes as the first ticket
abbrev pub refuses : List ℕ → ℕ → Case
refuses s n = case fresh (take_in s ∷ []) (refused n) (status n s)

abbrev pub passes : List ℕ → Case
passes s = case fresh (take_in s ∷ []) (taken (the_ticket 1)) (status 0x00 s)

unfoldable pub taking_in : List Case
taking_in =
    -- 8 to 87 bytes lent: the function code is checked first, then the length.
    refuses (sets (take 8 plain) 6 (0x02 ∷ [])) 0x06
    ∷ refuses (take 8 plain) 0x15
    ∷ refuses (take 87 plain) 0x15
    -- Path not 0. LUN above 7. Target and LUN at their ends: units 55 and 48.
    ∷ refuses (sets plain 9 (1 ∷ [])) 0x07
    ∷ passes (on_lun 7 (on_target 6))
    ∷ refuses (on_lun 8 plain) 0x06
    -- The four flags, each alone; the other four of the byte pass.
    ∷ refuses (flagged 0x10) 0x16
    ∷ refuses (flagged 0x02) 0x16
    ∷ refuses (flagged 0x04) 0x16
    ∷ refuses (flagged 0x01) 0x16
    ∷ passes (flagged 0xE8)
    -- CDB length 0; and 1.
    ∷ refuses (with_cdb_length 0) 0x06
    ∷ passes (with_cdb_length 1)
    -- A live request has the same address: waiting, active, finished; not when it was handed back.
    ∷ case fresh (take_in plain ∷ take_in plain ∷ []) (refused 0x06) (status 0x06 plain)
    ∷ case fresh (take_in plain ∷ send ∷ take_in plain ∷ []) (refused 0x06) (status 0x06 plain)
    ∷ case fresh (take_in plain ∷ abort (the_ticket 1) ∷ take_in plain ∷ []) (refused 0x06) (status 0x06 plain)
    ∷ case fresh (take_in plain ∷ abort (the_ticket 1) ∷ hand_back plain ∷ take_in plain ∷ []) (taken (the_ticket 2)) (status 0x00 plain)
    -- Ticket FFFFFFFFh is given, and then every submission that passes checks 1 to 9 is 05h.
    ∷ case (with_given 0xFFFFFFFE fresh) (take_in plain ∷ []) (taken (the_ticket 0xFFFFFFFF)) (status 0x00 plain)
    ∷ case (with_given 0xFFFFFFFF fresh) (take_in plain ∷ []) (refused 0x05) (status 0x05 plain)
    ∷ case (with_given 0xFFFFFFFF fresh) (take_in (with_cdb_length 0) ∷ []) (refused 0x06) (status 0x06 (with_cdb_length 0))
    ∷ []

-- ---- sending

-- three wait on unit 0; the second and then the third asked for the head
abbrev pub two_urgent : List Call
two_urgent = take_in (addressed 1) ∷ take_in (urgent (addressed 2)) ∷ take_in (urgent (addressed 3)) ∷ []

-- a request on unit 9 with the CDB bytes 1 to 12
abbrev pub numbered : List ℕ
numbered = sets (on_lun 1 (on_target 1)) 60 (1 ∷ 2 ∷ 3 ∷ 4 ∷ 5 ∷ 6 ∷ 7 ∷ 8 ∷ 9 ∷ 10 ∷ 11 ∷ 12 ∷ [])

-- n requests taken in, on units 0 to n - 1 (n at most 8)
unfoldable pub on_units : ℕ → List Call
on_units zero = []
on_units (suc n) = on_units n ++ (take_in (on_lun n (addressed n)) ∷ [])

-- a send that sends this, with a CDB of zeros
abbrev pub sends : Board → List Call → (ticket unit looked : ℕ) → Case
sends b calls t u n = case b (calls ++ (send ∷ [])) (sent (the_ticket t) (the_unit u) (record { first = 0; second = 0; third = 0 }) n) []

unfoldable pub sending : List Case
sending =
    -- At the front: a later priority request goes before an earlier one; the rest in order.
    sends fresh two_urgent 3 0 1
    ∷ sends fresh (two_urgent ++ (abort (the_ticket 3) ∷ [])) 2 0 1
    ∷ sends fresh (two_urgent ++ (abort (the_ticket 3) ∷ abort (the_ticket 2) ∷ [])) 1 0 1
    -- From mark + 1 round to the mark itself; the CDB as accepted; looked at is the distance.
    ∷ case fresh (take_in numbered ∷ send ∷ []) (sent (the_ticket 1) (the_unit 9) (record { first = 0x04030201; second = 0x08070605; third = 0x0C0B0A09 }) 10) []
    ∷ sends fresh (take_in numbered ∷ send ∷ take_in (addressed 2) ∷ []) 2 0 55
    ∷ sends fresh (take_in plain ∷ send ∷ event (the_ticket 1) good 0 ∷ take_in (addressed 2) ∷ []) 2 0 64
    -- One active per unit; none for a frozen unit, until it is released.
    ∷ case fresh (take_in plain ∷ take_in (addressed 2) ∷ send ∷ send ∷ []) (nothing 64) []
    ∷ case fresh (freeze (the_unit 0) ∷ take_in plain ∷ send ∷ []) (nothing 64) []
    ∷ sends fresh (freeze (the_unit 0) ∷ take_in plain ∷ send ∷ release (the_unit 0) ∷ []) 1 0 1
    -- With 8 active: "nothing", looked at 0.
    ∷ case fresh (on_units 8 ++ (take_in numbered ∷ send ∷ send ∷ send ∷ send ∷ send ∷ send ∷ send ∷ send ∷ send ∷ [])) (nothing 0) []
    ∷ []

-- ---- how a request ends

-- what a request with this block ends with, when it was sent and the calls were made
abbrev pub ends_after : List ℕ → List Call → Event → (moved status scsi unsensed : ℕ) → Case
ends_after s calls e moved n scsi unsensed =
    case fresh (take_in s ∷ send ∷ calls ++ (event (the_ticket 1) e moved ∷ hand_back s ∷ [])) (handed_back 1 n scsi unsensed (pos 0)) (back n scsi unsensed zeros s)

abbrev pub ends : List ℕ → Event → (status scsi unsensed : ℕ) → Case
ends s e n scsi unsensed = ends_after s [] e 0 n scsi unsensed

-- n ticks
unfoldable pub ticks : ℕ → List Call
ticks zero = []
ticks (suc n) = tick ∷ ticks n

-- a request that times out after a second, and asks for 32 sense bytes
abbrev pub hasty : List ℕ
hasty = sets asking_sense 72 (bytes4 1)

unfoldable pub ending : List Case
ending =
    -- abort done: host asked; overdue; both; neither
    ends_after plain (abort (the_ticket 1) ∷ []) AbortDone 0 0x42 0x00 0
    ∷ ends_after hasty (ticks 2) AbortDone 0 0x4B 0x00 0
    ∷ ends_after hasty (ticks 2 ++ (abort (the_ticket 1) ∷ [])) AbortDone 0 0x42 0x00 0
    ∷ case fresh (take_in plain ∷ send ∷ event (the_ticket 1) AbortDone 0 ∷ []) (refused 102) []
    -- any other, request overdue
    ∷ ends_after hasty (ticks 2) good 0 0x4B 0x00 0
    ∷ ends_after hasty (ticks 2) Parity 0 0x4B 0x00 0
    -- the five with a status of their own
    ∷ ends plain SelectionTimeout 0x4A 0x00 0
    ∷ ends plain Parity 0x4F 0x00 0
    ∷ ends plain BusFree 0x53 0x00 0
    ∷ ends plain Phase 0x54 0x00 0
    ∷ ends plain AdapterError 0x59 0x00 0
    -- complete: SCSI status 04h is good, any other is 04h; asked alone changes nothing
    ∷ ends plain (Complete 0x04 None) 0x01 0x04 0
    ∷ ends plain (Complete 0x08 None) 0x44 0x08 0
    ∷ ends_after plain (abort (the_ticket 1) ∷ []) good 0 0x01 0x00 0
    -- sense: failed and none are 0 bytes; all come; too many; none asked; looked at whatever the row; ignored where not looked at
    ∷ ends asking_sense (Complete 0x02 Failed) 0x50 0x02 32
    ∷ ends asking_sense (Complete 0x02 None) 0x50 0x02 32
    ∷ ends asking_sense (check_condition 32) 0xC4 0x02 0
    ∷ case fresh (take_in asking_sense ∷ send ∷ event (the_ticket 1) (check_condition 33) 0 ∷ []) (refused 102) []
    ∷ ends plain (check_condition 18) 0x44 0x02 0
    ∷ ends_after hasty (ticks 2) (check_condition 18) 0 0xCB 0x02 14
    ∷ case fresh (take_in hasty ∷ send ∷ ticks 2 ++ (event (the_ticket 1) (check_condition 33) 0 ∷ [])) (refused 102) []
    ∷ ends asking_sense (Complete 0x00 (Bytes 33)) 0x01 0x00 0
    -- a residual below zero on an event other than "complete"
    ∷ case fresh (ended_by Parity 1 plain) (handed_back 1 0x4F 0x00 0 (negsuc 0)) (back 0x4F 0x00 0 (0xFF ∷ 0xFF ∷ 0xFF ∷ 0xFF ∷ []) plain)
    ∷ []

-- ---- the other calls

-- sent at 0 with this timeout; and when the clock is then n
abbrev pub sent_with : ℕ → Board
sent_with timeout = (run fresh (take_in (with_timeout timeout) ∷ send ∷ [])).board

-- whether the request is overdue, as "abort done" tells: 102 if not
abbrev pub in_time : Board → List Call → Case
in_time b calls = case b (calls ++ (event (the_ticket 1) AbortDone 0 ∷ [])) (refused 102) []

abbrev pub overdue : Board → List Call → Case
overdue b calls = case b (calls ++ (event (the_ticket 1) AbortDone 0 ∷ [])) done []

-- a finished request with callback 04030201h
abbrev pub calling_back : List ℕ
calling_back = sets plain 28 (1 ∷ 2 ∷ 3 ∷ 4 ∷ [])

unfoldable pub others : List Case
others =
    -- Abort: active, again, finished, unknown.
    case fresh (take_in plain ∷ send ∷ abort (the_ticket 1) ∷ []) done []
    ∷ case fresh (take_in plain ∷ send ∷ abort (the_ticket 1) ∷ abort (the_ticket 1) ∷ []) done []
    ∷ case fresh (take_in plain ∷ abort (the_ticket 1) ∷ abort (the_ticket 1) ∷ []) (refused 0x03) []
    ∷ case fresh (abort (the_ticket 1) ∷ []) (refused 0x03) []
    -- Event: ticket waiting, finished, unknown; 101 before 102.
    ∷ case fresh (take_in plain ∷ event (the_ticket 1) good 0 ∷ []) (refused 101) []
    ∷ case fresh (take_in plain ∷ send ∷ event (the_ticket 1) good 0 ∷ event (the_ticket 1) good 0 ∷ []) (refused 101) []
    ∷ case fresh (event (the_ticket 1) good 0x80000000 ∷ []) (refused 101) []
    -- Freeze, release: units 56 to 63 too; above 63 is 103, and a number is never cut to 8 bits.
    ∷ case fresh (freeze (the_unit 63) ∷ []) (before 0) []
    ∷ case fresh (freeze (the_unit 64) ∷ []) (refused 103) []
    ∷ case fresh (release (the_unit 259) ∷ []) (refused 103) []
    ∷ case fresh (freeze (the_unit 3) ∷ release (the_unit 3) ∷ release (the_unit 3) ∷ []) (before 0) []
    -- Timeout 0 means 30: in time at 30, overdue at 31. FFFFFFFFh never ends. Overdue stays, though the seconds wrap. A frozen unit's
    -- active request times out like any other.
    ∷ in_time (sent_with 0) (ticks 30)
    ∷ overdue (sent_with 0) (ticks 31)
    ∷ in_time (with_clock 0xFFFFFFFE (sent_with 0xFFFFFFFF)) (ticks 1)
    ∷ overdue (with_clock 0xFFFFFFFE (sent_with 0xFFFFFFFE)) (ticks 1)
    ∷ overdue (with_clock 0xFFFFFFFE (sent_with 5)) (ticks 2)
    ∷ overdue (sent_with 1) (freeze (the_unit 0) ∷ ticks 2)
    -- Bus reset: whatever its marks; waiting ones stay.
    ∷ case fresh (take_in plain ∷ send ∷ abort (the_ticket 1) ∷ reset ∷ hand_back plain ∷ []) (handed_back 1 0x4E 0x00 0 (pos 0)) (back 0x4E 0x00 0 zeros plain)
    ∷ case fresh (take_in plain ∷ reset ∷ hand_back plain ∷ []) (refused 104) plain
    ∷ sends fresh (take_in plain ∷ reset ∷ []) 1 0 1
    -- Look: empty; callback wanted, or not, whatever its value.
    ∷ case fresh (look ∷ []) empty []
    ∷ case fresh (take_in calling_back ∷ abort (the_ticket 1) ∷ look ∷ []) (first (the_ticket 1) 0x1000 0x04030201 true) []
    ∷ case fresh (take_in (flagged 0x08) ∷ abort (the_ticket 1) ∷ look ∷ []) (first (the_ticket 1) 0x1000 0 false) []
    -- Hand back: fewer than 88 bytes, another address, a longer block; the line is first in, first out.
    ∷ case fresh (take_in plain ∷ abort (the_ticket 1) ∷ hand_back (take 87 plain) ∷ []) (refused 105) (take 87 plain)
    ∷ case fresh (take_in plain ∷ abort (the_ticket 1) ∷ hand_back (addressed 1) ∷ []) (refused 105) (addressed 1)
    ∷ case fresh (take_in plain ∷ abort (the_ticket 1) ∷ hand_back (plain ++ replicate 12 7) ∷ []) (handed_back 1 0x02 0x00 0 (pos 0)) (back 0x02 0x00 0 zeros plain ++ replicate 12 7)
    ∷ case fresh (take_in plain ∷ take_in (addressed 2) ∷ abort (the_ticket 2) ∷ abort (the_ticket 1) ∷ hand_back plain ∷ []) (refused 105) plain
    ∷ []

unfoldable pub rules : List Case
unfolding taking_in sending ending others
rules = taking_in ++ (sending ++ (ending ++ others))
