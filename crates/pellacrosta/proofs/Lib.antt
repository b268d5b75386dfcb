-- Laws of the exported calls (Exports, Exactly, InC), what walks by hand of two of them have in common (Lent), and the proofs of each function.
pub mod Exports
pub mod Exactly
pub mod InC
pub mod Lent
