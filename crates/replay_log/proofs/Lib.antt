-- Laws of a replay in memory, and the proofs of each function.
pub mod Live
pub mod Keeping
pub mod Replying
pub mod Lending
pub mod Blocks
pub mod Examples
pub mod Owning
