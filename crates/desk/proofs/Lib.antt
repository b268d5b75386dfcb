-- The laws, from the words up; each function's own proof stands in the folder of its name.

-- what is read at a place and what the words show, as words are stored
pub mod Read
pub mod Views
pub mod Splits
pub mod Sought
pub mod Tickets
pub mod Finishes
-- the calls
pub mod Begins
pub mod Held
pub mod TakesIn
pub mod Eligible
pub mod Sends
pub mod Freezes
pub mod Reports
pub mod Marks
pub mod AbortsBy
pub mod Ticks
pub mod ResetsAll
pub mod Looks
pub mod HandsBack
-- calls one after the other
pub mod Sessions
