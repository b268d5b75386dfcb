-- What the contracts of copies cite.
pub mod Slots
