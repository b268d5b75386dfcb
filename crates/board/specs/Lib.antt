-- Document 01 as definitions, in its own order, then what is stated of them. Read top to bottom. (The replay program's records are
-- not here: they are in crates lines, answers and replay_log.)
pub mod Types
pub mod Plain
pub mod Board
pub mod Block
pub mod Answers
pub mod TakingIn
pub mod Sending
pub mod Ending
pub mod Calls
pub mod Bench
pub mod Rules
pub mod Refusals
pub mod Written
pub mod Sends
pub mod Demand3
pub mod Limits
