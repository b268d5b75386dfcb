-- From what the desk promises to what the wheel promises; each function's own proof stands in the folder of its name.
pub mod Turns
