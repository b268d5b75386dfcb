-- What each answer is in C: a record, or one number. A record begins with the number of the refusal, or 0, and what doesn't apply in it is
-- 0 or false. Assumes nothing.
use Rattle.std.specs.Prelude.{ℕ, Bool, true, false, [], ◌∷◌, pos, Option, Some, None, Result, Ok, Err}
use Rattle.board.specs.declared.Ticket.{Ticket}
use Rattle.board.specs.declared.Refusal.{Refusal}
use Rattle.board.specs.declared.Sent as the_sent
use Rattle.board.specs.declared.Sending.{Sending}
use Rattle.board.specs.declared.Unreported.{Unreported}
use Rattle.board.specs.declared.UnableToAbort.{UnableToAbort}
use Rattle.board.specs.declared.NoSuchUnit.{NoSuchUnit}
use Rattle.board.specs.declared.First as the_first
use Rattle.board.specs.declared.Handed as the_handed
use Rattle.board.specs.declared.NotHanded.{NotHanded}
use Rattle.board.specs.Answers.{number, event_number, abort_number, unit_number, hand_back_number, bit}
use Rattle.board.specs.Block.{cdb_bytes}
use Rattle.pellacrosta.specs.declared.Taken.{Taken}
use Rattle.pellacrosta.specs.declared.Sent.{Sent}
use Rattle.pellacrosta.specs.declared.First.{First}
use Rattle.pellacrosta.specs.declared.Handed.{Handed}

-- ---- taking in

abbrev pub not_taken : (refused : ℕ) → Taken
not_taken n = record { refused = n; ticket = 0 }

abbrev pub as_taken : Result Ticket Refusal → Taken
as_taken (Ok t) = record { refused = 0; ticket = t.0 }
as_taken (Err why) = not_taken (number why)

-- ---- sending

abbrev pub not_sent : (refused looked : ℕ) → Sent
not_sent n looked = record { refused = n; ticket = 0; sent = false; unit = 0; looked = looked; cdb = 0 ∷ 0 ∷ 0 ∷ 0 ∷ 0 ∷ 0 ∷ 0 ∷ 0 ∷ 0 ∷ 0 ∷ 0 ∷ 0 ∷ [] }

abbrev pub sent_or_not : Option the_sent.Sent → (looked : ℕ) → Sent
sent_or_not (Some x) looked = record { refused = 0; ticket = x.ticket.0; sent = true; unit = x.unit.0; looked = looked; cdb = cdb_bytes x.cdb }
sent_or_not None looked = not_sent 0 looked

abbrev pub as_sent : Sending → Sent
as_sent a = sent_or_not a.sent a.looked

-- ---- event, abort, freeze and release: one number

abbrev pub as_reported : Result Unit Unreported → ℕ
as_reported (Ok ended) = 0
as_reported (Err why) = event_number why

abbrev pub as_aborted : Result Unit UnableToAbort → ℕ
as_aborted (Ok aborted) = 0
as_aborted (Err why) = abort_number why

abbrev pub as_frozen : Result Bool NoSuchUnit → ℕ
as_frozen (Ok was_frozen) = bit was_frozen
as_frozen (Err why) = unit_number why

-- ---- look at the finished line

abbrev pub not_found : (refused : ℕ) → First
not_found n = record { refused = n; ticket = 0; address = 0; callback = 0; found = false; wanted = false }

abbrev pub as_first : Option the_first.First → First
as_first (Some x) = record { refused = 0; ticket = x.ticket.0; address = x.address; callback = x.callback; found = true; wanted = x.wanted }
as_first None = not_found 0

-- ---- hand back

abbrev pub not_handed : (refused : ℕ) → Handed
not_handed n = record { refused = n; ticket = 0; residual = pos 0; status = 0; scsi = 0; unsensed = 0 }

abbrev pub as_handed : Result the_handed.Handed NotHanded → Handed
as_handed (Ok x) = record { refused = 0; ticket = x.ticket.0; residual = x.told.residual; status = x.told.status; scsi = x.told.scsi; unsensed = x.told.unsensed }
as_handed (Err why) = not_handed (hand_back_number why)
