-- That the numbers C is given, refusals and 0 or 1, are document 01's. proofs/Exactly.antt proves it. Assumes nothing.
use Rattle.std.specs.Prelude.{ℕ, Bool, ◌≡◌, Option, Result, if◌then◌else◌}
use Rattle.board.specs.declared.Ticket.{Ticket}
use Rattle.board.specs.declared.Refusal.{Refusal}
use Rattle.board.specs.declared.Sending.{Sending}
use Rattle.board.specs.declared.Unreported.{Unreported}
use Rattle.board.specs.declared.UnableToAbort.{UnableToAbort}
use Rattle.board.specs.declared.NoSuchUnit.{NoSuchUnit}
use Rattle.board.specs.declared.First.{First}
use Rattle.board.specs.declared.Handed.{Handed}
use Rattle.board.specs.declared.NotHanded.{NotHanded}
use Rattle.board.specs.Plain.{◌=?◌}
use Rattle.board.specs.Answers.{Answer, refused, taken, sent, nothing, done, before, time, first, empty, handed, taking_in_says, sending_says, reporting_says, aborting_says, freezing_says, looking_says, handing_back_says}
use Rattle.pellacrosta.specs.Forms.{as_taken, as_sent, as_reported, as_aborted, as_frozen, as_first, as_handed}

-- the number of an answer: the refusal's, and 0 where it is none. Freeze and release: 1 if the unit was frozen before, else 0.
unfoldable pub told : Answer → ℕ
told (refused n) = n
told (before n) = if n =? 0 then 0 else 1
told (taken t) = 0
told (sent t u cdb looked) = 0
told (nothing looked) = 0
told done = 0
told (time clock) = 0
told (first t address callback wanted) = 0
told empty = 0
told (handed t x) = 0

pub record Exact : Type 0 where
  pub taking_in : (a : Result Ticket Refusal) → (as_taken a).refused ≡ told (taking_in_says a)
  pub sending : (a : Sending) → (as_sent a).refused ≡ told (sending_says a)
  pub reporting : (a : Result Unit Unreported) → as_reported a ≡ told (reporting_says a)
  pub aborting : (a : Result Unit UnableToAbort) → as_aborted a ≡ told (aborting_says a)
  pub freezing : (a : Result Bool NoSuchUnit) → as_frozen a ≡ told (freezing_says a)
  pub looking : (a : Option First) → (as_first a).refused ≡ told (looking_says a)
  pub handing_back : (a : Result Handed NotHanded) → (as_handed a).refused ≡ told (handing_back_says a)
