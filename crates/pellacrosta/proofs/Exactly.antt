-- The numbers that C is given are document 01's. Assumes nothing.
use Rattle.std.specs.Prelude.{Bool, true, false, Option, Some, None, Result, Ok, Err}
use mathlib.Core.Path.{◌≡◌, refl}
use Prim.Native.Nat.{ℕ}
use Rattle.board.specs.declared.Ticket.{Ticket}
use Rattle.board.specs.declared.Refusal.{Refusal}
use Rattle.board.specs.declared.Sent.{Sent}
use Rattle.board.specs.declared.Sending.{Sending}
use Rattle.board.specs.declared.Unreported.{Unreported}
use Rattle.board.specs.declared.UnableToAbort.{UnableToAbort}
use Rattle.board.specs.declared.NoSuchUnit.{NoSuchUnit}
use Rattle.board.specs.declared.First.{First}
use Rattle.board.specs.declared.Handed.{Handed}
use Rattle.board.specs.declared.NotHanded.{NotHanded}
use Rattle.board.specs.Answers.{taking_in_says, sending_says, reporting_says, aborting_says, freezing_says, looking_says, handing_back_says}
use Rattle.pellacrosta.specs.Forms.{as_taken, as_sent, as_reported, as_aborted, as_frozen, as_first, as_handed}
use Rattle.pellacrosta.specs.Exact.{told, Exact}

taking_in : (a : Result Ticket Refusal) → (as_taken a).refused ≡ told (taking_in_says a)
unfolding told
taking_in (Ok t) = refl
taking_in (Err why) = refl

sent : (x : Option Sent) (looked : ℕ) → let a : Sending = record { sent = x; looked = looked } in (as_sent a).refused ≡ told (sending_says a)
unfolding told
sent (Some x) looked = refl
sent None looked = refl

reporting : (a : Result Unit Unreported) → as_reported a ≡ told (reporting_says a)
unfolding told
reporting (Ok ended) = refl
reporting (Err why) = refl

aborting : (a : Result Unit UnableToAbort) → as_aborted a ≡ told (aborting_says a)
unfolding told
aborting (Ok aborted) = refl
aborting (Err why) = refl

freezing : (a : Result Bool NoSuchUnit) → as_frozen a ≡ told (freezing_says a)
unfolding told
freezing (Ok true) = refl
freezing (Ok false) = refl
freezing (Err why) = refl

looking : (a : Option First) → (as_first a).refused ≡ told (looking_says a)
unfolding told
looking (Some x) = refl
looking None = refl

handing_back : (a : Result Handed NotHanded) → (as_handed a).refused ≡ told (handing_back_says a)
unfolding told
handing_back (Ok x) = refl
handing_back (Err why) = refl

pub exact : Exact
exact = record {
  taking_in = taking_in;
  sending = λ a. sent a.sent a.looked;
  reporting = reporting;
  aborting = aborting;
  freezing = freezing;
  looking = looking;
  handing_back = handing_back;
}
