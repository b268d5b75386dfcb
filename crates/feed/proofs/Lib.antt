-- Laws of a log fed piece by piece, and the proofs of each function.
pub mod Clears
pub mod Lining
pub mod Reading
pub mod Whole
