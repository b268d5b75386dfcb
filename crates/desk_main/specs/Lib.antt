-- What the program's functions promise.
pub mod Story
