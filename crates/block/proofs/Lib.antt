-- What the functions' proofs share.
pub mod Passing
pub mod Numbers
