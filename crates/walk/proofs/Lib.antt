-- The lines that walks by hand have in common.
pub mod Walk
