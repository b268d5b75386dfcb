-- The types that the definitions here speak of, under their own names: those of `board`, and `Closed`. Assumes nothing.
pub use Rattle.board.specs.declared.Request.{Request}
pub use Rattle.board.specs.declared.Active.{Active}
pub use Rattle.board.specs.declared.Sense.{Sense}
pub use Rattle.board.specs.declared.Event.{Event}
pub use Rattle.board.specs.declared.Event.TheVariants.{AbortDone, SelectionTimeout, Parity, BusFree, Phase, AdapterError, Complete}
pub use Rattle.board.specs.declared.End.{End}
pub use Rattle.board.specs.declared.Implausible.{Implausible}
pub use Rattle.ends.specs.declared.Closed.{Closed}
