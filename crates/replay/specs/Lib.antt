-- What the program's loop promises.
pub mod Progress
