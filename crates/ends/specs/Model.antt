-- What the private functions make of their arguments, in the order in which the code goes. proofs/Table.antt has the law
-- that this is the table of ends. Assumes nothing.
use Rattle.std.specs.Prelude.{ℕ, ◌-◌, ◌<◌, Bool, false, ◌&&◌, ◌||◌, pos, ◌-ℤ◌, Result, Ok, Err, if◌then◌else◌}
use Rattle.ends.specs.Types.{Request, Active, Sense, Event, AbortDone, SelectionTimeout, Parity, BusFree, Phase, AdapterError, Complete, End, Implausible}
use Rattle.board.specs.Plain.{◌=?◌, ◌<?◌, ◌≤?◌}
use Rattle.board.specs.Board.{data_length, sense_length}
use Rattle.board.specs.Ending.{bytes_of}

-- what the code can count with: a data length and bytes moved of which the residual fits 32 bits
pub record Countable (length moved : ℕ) : Type 0 where
  pub asked : length < 0x80000000
  pub came : moved < 0x80000000

-- an end with this base status, by an event other than "complete"
unfoldable pub plainly : Active → (moved status : ℕ) → End
plainly a moved n = record { base = n; scsi = 0; sensed = false; unsensed = 0; residual = pos (data_length a.request) -ℤ pos moved }

-- any other event than "abort done": 0Bh where the request is overdue
abbrev pub overdue_or : Active → (status : ℕ) → ℕ
overdue_or a n = if a.overdue then 0x0B else n

unfoldable pub abort_done : Active → (moved : ℕ) → Result End Implausible
abort_done a moved = if a.asked then Ok (plainly a moved 0x02) else if a.overdue then Ok (plainly a moved 0x0B) else Err (record {})

abbrev pub looked_at : Request → (scsi : ℕ) → Bool
looked_at q scsi = scsi =? 0x02 && q.autosense && 1 ≤? sense_length q

-- the rows that begin "complete"
abbrev pub complete_status : Request → (moved scsi : ℕ) → Sense → ℕ
complete_status q moved scsi sense =
    if data_length q <? moved then 0x12
    else if looked_at q scsi && bytes_of sense =? 0 then 0x10
    else if scsi =? 0x00 || scsi =? 0x04 then 0x01
    else 0x04

unfoldable pub completely : Active → (moved scsi : ℕ) → Sense → Result End Implausible
completely a moved scsi sense =
    let q : Request = a.request in
    if looked_at q scsi && sense_length q <? bytes_of sense then Err (record {})
    else Ok (record {
      base = overdue_or a (complete_status q moved scsi sense);
      scsi = scsi;
      sensed = looked_at q scsi && 1 ≤? bytes_of sense;
      unsensed = if looked_at q scsi then sense_length q - bytes_of sense else 0;
      residual = pos (data_length q) -ℤ pos moved;
    })

unfoldable pub by_event : Active → (moved : ℕ) → Event → Result End Implausible
by_event a moved AbortDone = abort_done a moved
by_event a moved SelectionTimeout = Ok (plainly a moved (overdue_or a 0x0A))
by_event a moved Parity = Ok (plainly a moved (overdue_or a 0x0F))
by_event a moved BusFree = Ok (plainly a moved (overdue_or a 0x13))
by_event a moved Phase = Ok (plainly a moved (overdue_or a 0x14))
by_event a moved AdapterError = Ok (plainly a moved (overdue_or a 0x19))
by_event a moved (Complete scsi sense) = completely a moved scsi sense
