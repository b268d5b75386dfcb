-- Laws of linked rows: what each function of the crate does to the rows that the words hold.
pub mod Links
pub mod Walks
pub mod Shown
pub mod Search
pub mod Carry
pub mod Fresh
pub mod Everywhere
