-- What is proved of the story; each function's own proof stands in its folder.
pub mod Told
