-- What the proofs of the functions use.
pub mod Before
pub mod Puts
