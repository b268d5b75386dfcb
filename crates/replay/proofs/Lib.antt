-- What one more piece of input makes of the progress; each function's own proof stands in its folder.
pub mod Onward
