-- The types; what an event makes of an active request, for the caller; what the private functions make of their arguments.
pub mod Types
pub mod Closing
pub mod Model
