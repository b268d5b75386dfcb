-- What the numbers that C passes with a report mean: an event's kind, its SCSI status and its sense. The refusals 202 to 204 are the library's own.
-- Assumes nothing.
use Rattle.std.specs.Prelude.{ℕ, Result, Ok, Err, if◌then◌else◌}
use Rattle.board.specs.declared.Event.{Event}
use Rattle.board.specs.declared.Event.TheVariants.{AbortDone, Complete}
use Rattle.board.specs.declared.NoSuchEvent.{NoSuchEvent}
use Rattle.board.specs.declared.Sense.{Sense}
use Rattle.board.specs.declared.Sense.TheVariants.{Bytes, Failed, None}
use Rattle.board.specs.Plain.{◌=?◌, ◌<?◌}
use Rattle.board.specs.Ending.{event_named}
use Rattle.pellacrosta.specs.declared.Unclear.{Unclear}
use Rattle.pellacrosta.specs.declared.Unclear.TheVariants as unclear

abbrev pub unclear_number : Unclear → ℕ
unclear_number unclear.Kind = 202
unclear_number unclear.Status = 203
unclear_number unclear.Sense = 204

-- the sense: a byte count to 255, 256 for failed, 257 for none
abbrev pub sense_meant : ℕ → Result Sense Unclear
sense_meant n = if n <? 256 then Ok (Bytes n) else if n =? 256 then Ok Failed else if n =? 257 then Ok None else Err unclear.Sense

abbrev pub completed : (scsi : ℕ) → Result Sense Unclear → Result Event Unclear
completed scsi (Ok sense) = Ok (Complete scsi sense)
completed scsi (Err why) = Err why

-- a complete event: its SCSI status is a byte
abbrev pub complete_meant : (scsi sense : ℕ) → Result Event Unclear
complete_meant scsi sense = if 255 <? scsi then Err unclear.Status else completed scsi (sense_meant sense)

-- what a code of document 01 names, and any other number
abbrev pub code_meant : Result Event NoSuchEvent → Result Event Unclear
code_meant (Ok e) = Ok e
code_meant (Err why) = Err unclear.Kind

-- an event by its kind: 01h for complete, 02h for abort done, or a code
abbrev pub event_meant : (kind scsi sense : ℕ) → Result Event Unclear
event_meant kind scsi sense =
    if kind =? 0x01 then complete_meant scsi sense
    else if kind =? 0x02 then Ok AbortDone
    else code_meant (event_named kind)
