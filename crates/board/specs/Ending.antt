-- How a request ends: the events, the table of base statuses, sense, the freeze, the status byte. Assumes nothing.
use Rattle.std.specs.Prelude.{Bool, true, false, not, ◌&&◌, ◌||◌, List, [], ◌∷◌, ◌++◌, ℕ, ◌+◌, ◌-◌, pos, ◌-ℤ◌, Result, Ok, Err, if◌then◌else◌, Option, None, Some}
use Rattle.board.specs.Types.{Ticket, Request, Active, Told, Sense, Event, AbortDone, SelectionTimeout, Parity, BusFree, Phase, AdapterError, Complete, NoSuchEvent, End, Implausible}
use Rattle.board.specs.declared.Sense.TheVariants as came
use Rattle.board.specs.Plain.{◌=?◌, ◌<?◌, ◌≤?◌, Row, ◌⇒◌, first_that_applies}
use Rattle.board.specs.Board.{find, without, ticket_of_active, data_length, sense_length, Freeze, is_frozen, one_freeze, Board, with_active, with_finished, with_freeze}
use Rattle.board.specs.Answers.{refused, done, Stepped, says}

-- ---- what an event says

abbrev pub is_abort_done : Event → Bool
is_abort_done AbortDone = true
is_abort_done SelectionTimeout = false
is_abort_done Parity = false
is_abort_done BusFree = false
is_abort_done Phase = false
is_abort_done AdapterError = false
is_abort_done (Complete scsi sense) = false

abbrev pub is_complete : Event → Bool
is_complete AbortDone = false
is_complete SelectionTimeout = false
is_complete Parity = false
is_complete BusFree = false
is_complete Phase = false
is_complete AdapterError = false
is_complete (Complete scsi sense) = true

-- selection timeout; parity; bus free; phase; adapter error: 0Ah; 0Fh; 13h; 14h; 19h (the other two have none)
abbrev pub own_status : Event → ℕ
own_status AbortDone = 0
own_status SelectionTimeout = 0x0A
own_status Parity = 0x0F
own_status BusFree = 0x13
own_status Phase = 0x14
own_status AdapterError = 0x19
own_status (Complete scsi sense) = 0

-- the event that such a code names, or none
unfoldable pub event_named : ℕ → Result Event NoSuchEvent
event_named n =
    if n =? 0x0A then Ok SelectionTimeout
    else if n =? 0x0F then Ok Parity
    else if n =? 0x13 then Ok BusFree
    else if n =? 0x14 then Ok Phase
    else if n =? 0x19 then Ok AdapterError
    else Err (record {})

-- SCSI status is the event's for "complete", else 0.
abbrev pub scsi_status : Event → ℕ
scsi_status AbortDone = 0
scsi_status SelectionTimeout = 0
scsi_status Parity = 0
scsi_status BusFree = 0
scsi_status Phase = 0
scsi_status AdapterError = 0
scsi_status (Complete scsi sense) = scsi

-- an outcome "none" counts as failed, failed means 0 bytes
abbrev pub bytes_of : Sense → ℕ
bytes_of (came.Bytes n) = n
bytes_of came.Failed = 0
bytes_of came.None = 0

-- the sense bytes that came with a "complete"
abbrev pub sense_bytes : Event → ℕ
sense_bytes AbortDone = 0
sense_bytes SelectionTimeout = 0
sense_bytes Parity = 0
sense_bytes BusFree = 0
sense_bytes Phase = 0
sense_bytes AdapterError = 0
sense_bytes (Complete scsi sense) = bytes_of sense

-- Sense is looked at only for a complete event with SCSI status 02h, autosense not disabled, sense length at least 1.
unfoldable pub sense_looked_at : Request → Event → Bool
sense_looked_at q e = is_complete e && scsi_status e =? 0x02 && q.autosense && 1 ≤? sense_length q

-- ---- the table

pub data Base : Type 0 where
  base : (status : ℕ) → Base
  refusal_102 : Base

-- Rows apply in order.
unfoldable pub table_of_ends : Active → Event → (moved : ℕ) → List (Row Base)
table_of_ends a e moved =
    -- abort done, host asked
    (is_abort_done e && a.asked ⇒ base 0x02)
    -- abort done, overdue
    ∷ (is_abort_done e && a.overdue ⇒ base 0x0B)
    -- abort done, neither
    ∷ (is_abort_done e ⇒ refusal_102)
    -- any other, request overdue
    ∷ (a.overdue ⇒ base 0x0B)
    -- selection timeout; parity; bus free; phase; adapter error (abort done has had its rows)
    ∷ (not (is_complete e) ⇒ base (own_status e))
    -- complete, more bytes moved than asked
    ∷ (data_length a.request <? moved ⇒ base 0x12)
    -- complete, SCSI status 02h, sense looked at, failed or 0 bytes
    ∷ (sense_looked_at a.request e && sense_bytes e =? 0 ⇒ base 0x10)
    -- complete, SCSI status 00h or 04h
    ∷ (scsi_status e =? 0x00 || scsi_status e =? 0x04 ⇒ base 0x01)
    ∷ []

-- complete, any other SCSI status: 04h
unfoldable pub base_status : Active → Event → (moved : ℕ) → Base
base_status a e moved = first_that_applies (table_of_ends a e moved) (base 0x04)

-- ---- an end

-- Residual = data length minus bytes moved, signed. Autosense residual = sense length minus sense bytes where sense is
-- looked at. Otherwise it is 0.
unfoldable pub end_by_event : (status : ℕ) → Request → Event → (moved : ℕ) → End
end_by_event n q e moved = record {
  base = n;
  scsi = scsi_status e;
  sensed = sense_looked_at q e && 1 ≤? sense_bytes e;
  unsensed = if sense_looked_at q e then sense_length q - sense_bytes e else 0;
  residual = pos (data_length q) -ℤ pos moved;
}

-- an end without an event, by abort while waiting or by bus reset: residual the whole data length
unfoldable pub end_unmoved : (status : ℕ) → Request → End
end_unmoved n q = record { base = n; scsi = 0; sensed = false; unsensed = 0; residual = pos (data_length q) }

-- 102: bytes moved above 7FFFFFFFh; sense looked at with more bytes than asked. (The third cause stands in the table.)
unfoldable pub implausible : Request → Event → (moved : ℕ) → Bool
implausible q e moved = 0x7FFFFFFF <? moved || (sense_looked_at q e && sense_length q <? sense_bytes e)

unfoldable pub ending_by : Request → Event → (moved : ℕ) → Base → Result End Implausible
ending_by q e moved (base n) = Ok (end_by_event n q e moved)
ending_by q e moved refusal_102 = Err (record {})

-- what an event with these bytes moved makes of an active request
unfoldable pub ending : Active → Event → (moved : ℕ) → Result End Implausible
ending a e moved = if implausible a.request e moved then Err (record {}) else ending_by a.request e moved (base_status a e moved)

-- A request that was active and ends with base status other than 01h freezes its unit.
unfoldable pub freeze_after : (status : ℕ) → Freeze → Freeze
freeze_after n x = if n =? 0x01 then x else one_freeze x

-- Status byte = base, +80h if sense was looked at and at least 1 byte came, +40h exactly if the unit is frozen after this
-- end.
abbrev pub status_byte : (status : ℕ) → (sensed frozen : Bool) → ℕ
status_byte n sensed frozen = n + (if sensed then 0x80 else 0) + (if frozen then 0x40 else 0)

unfoldable pub told : End → (frozen : Bool) → Told
told e frozen = record { status = status_byte e.base e.sensed frozen; scsi = e.scsi; unsensed = e.unsensed; residual = e.residual }

-- Ended requests go to the back of the finished line.
abbrev pub to_finished : Request → End → (frozen : Bool) → Board → Board
to_finished q e frozen b = with_finished (b.finished ++ (record { request = q; told = told e frozen } ∷ [])) b

-- a request that was active ends
unfoldable pub ended_active : Request → End → Board → Board
ended_active q e b =
    let after : Freeze = freeze_after e.base (b.freezes q.unit) in
    to_finished q e (is_frozen after) (with_freeze q.unit after b)

-- ---- the call: the adapter reports an event on a ticket, with the bytes moved

unfoldable pub reported_by : Board → Request → Result End Implausible → Stepped
reported_by b q (Err why) = says b (refused 102)
reported_by b q (Ok e) = says (ended_active q e (with_active (without ticket_of_active q.ticket b.active) b)) done

-- 101 before 102.
unfoldable pub reported : Board → Event → (moved : ℕ) → Option Active → Stepped
reported b e moved None = says b (refused 101)
reported b e moved (Some a) = reported_by b a.request (ending a e moved)

unfoldable pub reporting : Board → Ticket → Event → (moved : ℕ) → Stepped
reporting b t e moved = reported b e moved (find ticket_of_active t b.active)
