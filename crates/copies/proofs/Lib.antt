-- Laws of slots.
pub mod Slotted
pub mod Copied
pub mod Counted
