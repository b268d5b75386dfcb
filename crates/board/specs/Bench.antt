-- The bench cases of document 01, each a run of calls with what the last one gives: the starred ones, which are one list with one
-- proof (a sentence with a star in it is taken whole), and the rest, run the same way. specs/Rules.antt has more, for the sentences
-- that the bench passes over. Assumes nothing.
use Rattle.std.specs.Prelude.{List, [], ◌∷◌, ◌++◌, ℕ, zero, suc, take, replicate, ℤ, pos, negsuc}
use Rattle.std.proofs.lemmas.List.Edits.{sets}
use Rattle.board.specs.Types.{Bytes, None, Event, AbortDone, Complete}
use Rattle.board.specs.Board.{the_ticket, the_unit, Board, fresh, with_clock}
use Rattle.board.specs.Block.{bytes4}
use Rattle.board.specs.Answers.{Answer, refused, taken, nothing, done, before, time, handed}
use Rattle.board.specs.Calls.{Call, take_in, send, event, abort, freeze, release, tick, reset, hand_back, run}

-- what the last call answers, and every byte of the block that it is lent
pub record Gives : Type 0 where
  pub answer : Answer
  pub lent : List ℕ

pub record Case : Type 0 where
  pub start : Board
  pub calls : List Call
  pub gives : Gives

abbrev pub case : Board → List Call → Answer → List ℕ → Case
case b calls a s = record { start = b; calls = calls; gives = record { answer = a; lent = s } }

abbrev pub last : {A : Type 0} → A → List A → A
last x [] = x
last x (y ∷ more) = last y more

-- what the definitions give
unfoldable pub given_by_definitions : Case → Gives
given_by_definitions c =
    let r = run c.start c.calls in
    record { answer = last done r.answers; lent = last [] r.blocks }

-- ---- blocks

-- 88 bytes: address 1000h, length 88, function 01h, unit 0, CDB length 6, all else 0
unfoldable pub plain : List ℕ
plain = sets (sets (sets (replicate 88 0) 0 (bytes4 0x1000)) 4 (88 ∷ 0 ∷ 0x01 ∷ [])) 45 (6 ∷ [])

abbrev pub addressed : ℕ → List ℕ
addressed n = sets plain 0 (bytes4 n)

abbrev pub of_length : ℕ → List ℕ
of_length n = sets plain 4 (n ∷ 0 ∷ [])

abbrev pub on_target : ℕ → List ℕ
on_target n = sets plain 10 (n ∷ [])

abbrev pub asking : ℕ → List ℕ
asking n = sets plain 36 (bytes4 n)

abbrev pub with_cdb_length : ℕ → List ℕ
with_cdb_length n = sets plain 45 (n ∷ [])

abbrev pub asking_sense : List ℕ
asking_sense = sets plain 44 (32 ∷ [])

abbrev pub with_timeout : ℕ → List ℕ
with_timeout n = sets plain 72 (bytes4 n)

-- the block with this status byte, or with all seven bytes of a hand-back
abbrev pub status : ℕ → List ℕ → List ℕ
status n s = sets s 7 (n ∷ [])

abbrev pub back : (status scsi unsensed : ℕ) → (residual : List ℕ) → List ℕ → List ℕ
back n scsi unsensed residual s = sets (sets (status n s) 52 (scsi ∷ unsensed ∷ [])) 56 residual

abbrev pub zeros : List ℕ
zeros = 0 ∷ 0 ∷ 0 ∷ 0 ∷ []

-- ---- courses of calls

-- taken in, sent, ended by this event, handed back
abbrev pub ended_by : Event → (moved : ℕ) → List ℕ → List Call
ended_by e moved s = take_in s ∷ send ∷ event (the_ticket 1) e moved ∷ hand_back s ∷ []

abbrev pub good : Event
good = Complete 0x00 None

abbrev pub check_condition : ℕ → Event
check_condition sense_bytes = Complete 0x02 (Bytes sense_bytes)

abbrev pub handed_back : ℕ → (status scsi unsensed : ℕ) → ℤ → Answer
handed_back t n scsi unsensed residual = handed (the_ticket t) (record { status = n; scsi = scsi; unsensed = unsensed; residual = residual })

-- a request sent at FFFFFFFEh with timeout 5, when the clock is 3
abbrev pub clock_is_3 : List Call
clock_is_3 = take_in (with_timeout 5) ∷ send ∷ tick ∷ tick ∷ tick ∷ tick ∷ tick ∷ []

abbrev pub before_wrap : Board
before_wrap = with_clock 0xFFFFFFFE fresh

unfoldable pub starred : List Case
starred =
    -- Lent 7 bytes: 15h.
    case fresh (take_in (take 7 plain) ∷ []) (refused 0x15) (take 7 plain)
    -- 88 lent, length 87: 15h; 88 passes; 89: 15h.
    ∷ case fresh (take_in (of_length 87) ∷ []) (refused 0x15) (status 0x15 (of_length 87))
    ∷ case fresh (take_in (of_length 88) ∷ []) (taken (the_ticket 1)) (status 0x00 (of_length 88))
    ∷ case fresh (take_in (of_length 89) ∷ []) (refused 0x15) (status 0x15 (of_length 89))
    -- Short length and path 1: 15h.
    ∷ case fresh (take_in (sets (of_length 87) 9 (1 ∷ [])) ∷ []) (refused 0x15) (status 0x15 (sets (of_length 87) 9 (1 ∷ [])))
    -- Data length FFFFFFh passes, 1000000h: 16h.
    ∷ case fresh (take_in (asking 0xFFFFFF) ∷ []) (taken (the_ticket 1)) (status 0x00 (asking 0xFFFFFF))
    ∷ case fresh (take_in (asking 0x1000000) ∷ []) (refused 0x16) (status 0x16 (asking 0x1000000))
    -- 4,096 asked, status 00h: 4,096 moved, 01h, residual 0; 4,095 moved, 01h, residual 1; 4,097 moved, 52h, residual -1,
    -- bytes FF FF FF FF.
    ∷ case fresh (ended_by good 4096 (asking 4096)) (handed_back 1 0x01 0x00 0 (pos 0)) (back 0x01 0x00 0 zeros (asking 4096))
    ∷ case fresh (ended_by good 4095 (asking 4096)) (handed_back 1 0x01 0x00 0 (pos 1)) (back 0x01 0x00 0 (1 ∷ 0 ∷ 0 ∷ 0 ∷ []) (asking 4096))
    ∷ case fresh (ended_by good 4097 (asking 4096)) (handed_back 1 0x52 0x00 0 (negsuc 0)) (back 0x52 0x00 0 (0xFF ∷ 0xFF ∷ 0xFF ∷ 0xFF ∷ []) (asking 4096))
    -- Status 02h, 32 sense bytes asked: 18 come, C4h and 14; 0 come, 50h and 32; autosense disabled, 44h and 0.
    ∷ case fresh (ended_by (check_condition 18) 0 asking_sense) (handed_back 1 0xC4 0x02 14 (pos 0)) (back 0xC4 0x02 14 zeros asking_sense)
    ∷ case fresh (ended_by (check_condition 0) 0 asking_sense) (handed_back 1 0x50 0x02 32 (pos 0)) (back 0x50 0x02 32 zeros asking_sense)
    ∷ case fresh (ended_by (check_condition 18) 0 (sets asking_sense 12 (0x20 ∷ []))) (handed_back 1 0x44 0x02 0 (pos 0)) (back 0x44 0x02 0 zeros (sets asking_sense 12 (0x20 ∷ [])))
    -- A host-frozen unit's active request ends well: 41h.
    ∷ case fresh (take_in plain ∷ send ∷ freeze (the_unit 0) ∷ event (the_ticket 1) good 0 ∷ hand_back plain ∷ []) (handed_back 1 0x41 0x00 0 (pos 0)) (back 0x41 0x00 0 zeros plain)
    -- Abort while waiting: 02h, or 42h on a frozen unit.
    ∷ case fresh (take_in (asking 4096) ∷ abort (the_ticket 1) ∷ hand_back (asking 4096) ∷ []) (handed_back 1 0x02 0x00 0 (pos 4096)) (back 0x02 0x00 0 (0 ∷ 16 ∷ 0 ∷ 0 ∷ []) (asking 4096))
    ∷ case fresh (freeze (the_unit 0) ∷ take_in (asking 4096) ∷ abort (the_ticket 1) ∷ hand_back (asking 4096) ∷ []) (handed_back 1 0x42 0x00 0 (pos 4096)) (back 0x42 0x00 0 (0 ∷ 16 ∷ 0 ∷ 0 ∷ []) (asking 4096))
    -- Data length 0, 7FFFFFFFh moved: residual -2,147,483,647; 80000000h: 102.
    ∷ case fresh (ended_by good 0x7FFFFFFF plain) (handed_back 1 0x52 0x00 0 (negsuc 2147483646)) (back 0x52 0x00 0 (0x01 ∷ 0x00 ∷ 0x00 ∷ 0x80 ∷ []) plain)
    ∷ case fresh (take_in plain ∷ send ∷ event (the_ticket 1) good 0x80000000 ∷ []) (refused 102) []
    -- Sent at FFFFFFFEh with timeout 5: not overdue at clock 3, overdue at 4. (An abort that is done, but was not asked for,
    -- tells the two apart.)
    ∷ case before_wrap clock_is_3 (time 3) []
    ∷ case before_wrap (clock_is_3 ++ (event (the_ticket 1) AbortDone 0 ∷ [])) (refused 102) []
    ∷ case before_wrap (clock_is_3 ++ (tick ∷ [])) (time 4) []
    ∷ case before_wrap (clock_is_3 ++ (tick ∷ event (the_ticket 1) AbortDone 0 ∷ hand_back (with_timeout 5) ∷ [])) (handed_back 1 0x4B 0x00 0 (pos 0)) (back 0x4B 0x00 0 zeros (with_timeout 5))
    ∷ []

-- ---- the rest

-- n requests taken in, with addresses 0 to n - 1
unfoldable pub filled : ℕ → List Call
filled zero = []
filled (suc n) = filled n ++ (take_in (addressed n) ∷ [])

-- on LUN n of target 0
abbrev pub on_lun : ℕ → List ℕ → List ℕ
on_lun n s = sets s 11 (n ∷ [])

-- the blocks of tickets 3 and 9
abbrev pub third : List ℕ
third = sets (on_lun 1 (addressed 3)) 36 (bytes4 512)

abbrev pub ninth : List ℕ
ninth = sets (addressed 9) 36 (bytes4 1024)

-- tickets 1, 2 and 4 to 8 wait on unit 2, which is frozen; ticket 9 is sent before ticket 3; then the bus is reset
abbrev pub reset_3_and_9 : List Call
reset_3_and_9 =
    freeze (the_unit 2)
    ∷ take_in (on_lun 2 (addressed 1))
    ∷ take_in (on_lun 2 (addressed 2))
    ∷ take_in third
    ∷ take_in (on_lun 2 (addressed 4))
    ∷ take_in (on_lun 2 (addressed 5))
    ∷ take_in (on_lun 2 (addressed 6))
    ∷ take_in (on_lun 2 (addressed 7))
    ∷ take_in (on_lun 2 (addressed 8))
    ∷ take_in ninth
    ∷ send
    ∷ send
    ∷ reset
    ∷ []

unfoldable pub unstarred : List Case
unstarred =
    -- Function 02h: 06h.
    case fresh (take_in (sets plain 6 (0x02 ∷ [])) ∷ []) (refused 0x06) (status 0x06 (sets plain 6 (0x02 ∷ [])))
    -- Target 6 passes, 7: 06h. CDB length 12 passes, 13: 06h.
    ∷ case fresh (take_in (on_target 6) ∷ []) (taken (the_ticket 1)) (status 0x00 (on_target 6))
    ∷ case fresh (take_in (on_target 7) ∷ []) (refused 0x06) (status 0x06 (on_target 7))
    ∷ case fresh (take_in (with_cdb_length 12) ∷ []) (taken (the_ticket 1)) (status 0x00 (with_cdb_length 12))
    ∷ case fresh (take_in (with_cdb_length 13) ∷ []) (refused 0x06) (status 0x06 (with_cdb_length 13))
    -- Reset with 3 and 9 active: 4Eh each, 3 first.
    ∷ case fresh (reset_3_and_9 ++ (hand_back third ∷ [])) (handed_back 3 0x4E 0x00 0 (pos 512)) (back 0x4E 0x00 0 (0 ∷ 2 ∷ 0 ∷ 0 ∷ []) third)
    ∷ case fresh (reset_3_and_9 ++ (hand_back third ∷ hand_back ninth ∷ [])) (handed_back 9 0x4E 0x00 0 (pos 1024)) (back 0x4E 0x00 0 (0 ∷ 4 ∷ 0 ∷ 0 ∷ []) ninth)
    -- 32 live: the next gets 05h; after one hand-back it passes. (An end alone frees no place; a refusal uses up no ticket.)
    ∷ case fresh (filled 32 ++ (take_in (addressed 32) ∷ [])) (refused 0x05) (status 0x05 (addressed 32))
    ∷ case fresh (filled 32 ++ (abort (the_ticket 1) ∷ take_in (addressed 32) ∷ [])) (refused 0x05) (status 0x05 (addressed 32))
    ∷ case fresh (filled 32 ++ (take_in (addressed 32) ∷ abort (the_ticket 1) ∷ hand_back (addressed 0) ∷ take_in (addressed 32) ∷ [])) (taken (the_ticket 33)) (status 0x00 (addressed 32))
    ∷ []

-- The replay program's example: F 3, F 3, R 3, N, T, H, R 64. (With an empty line any block lent to H gets 104.)
unfoldable pub example : List Call
example = freeze (the_unit 3) ∷ freeze (the_unit 3) ∷ release (the_unit 3) ∷ send ∷ tick ∷ hand_back [] ∷ release (the_unit 64) ∷ []

unfoldable pub example_answers : List Answer
example_answers = before 0 ∷ before 1 ∷ before 1 ∷ nothing 64 ∷ time 1 ∷ refused 104 ∷ refused 103 ∷ []
