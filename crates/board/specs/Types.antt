-- The types declared in src/lib.rt, under their own names, for the other files. Assumes nothing.
pub use Rattle.board.specs.declared.Ticket.{Ticket}
pub use Rattle.board.specs.declared.Unit.{Unit}
pub use Rattle.board.specs.declared.Cdb.{Cdb}
pub use Rattle.board.specs.declared.Request.{Request}
pub use Rattle.board.specs.declared.Active.{Active}
pub use Rattle.board.specs.declared.Told.{Told}
pub use Rattle.board.specs.declared.Finished.{Finished}
pub use Rattle.board.specs.declared.Found.{Found}
pub use Rattle.board.specs.declared.Sense.{Sense}
pub use Rattle.board.specs.declared.Sense.TheVariants.{Bytes, Failed, None}
pub use Rattle.board.specs.declared.Event.{Event}
pub use Rattle.board.specs.declared.Event.TheVariants.{AbortDone, SelectionTimeout, Parity, BusFree, Phase, AdapterError, Complete}
pub use Rattle.board.specs.declared.NoSuchEvent.{NoSuchEvent}
pub use Rattle.board.specs.declared.End.{End}
pub use Rattle.board.specs.declared.Implausible.{Implausible}
pub use Rattle.board.specs.declared.Refusal.{Refusal}
pub use Rattle.board.specs.declared.Refusal.TheVariants.{CamBusy, InvalidRequest, InvalidPath, LengthInadequate, CannotProvide}
pub use Rattle.board.specs.declared.Sent.{Sent}
pub use Rattle.board.specs.declared.Sending.{Sending}
pub use Rattle.board.specs.declared.Unreported.{Unreported}
pub use Rattle.board.specs.declared.UnableToAbort.{UnableToAbort}
pub use Rattle.board.specs.declared.NoSuchUnit.{NoSuchUnit}
pub use Rattle.board.specs.declared.First.{First}
pub use Rattle.board.specs.declared.Handed.{Handed}
pub use Rattle.board.specs.declared.NotHanded.{NotHanded}
