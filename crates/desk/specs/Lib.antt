-- What a reader must believe: View (which board the words show), Promise (what each call promises) and Session (calls one after the
-- other, and demand 3 of the desk). The others say which words each private function leaves.
pub mod View
pub mod Promise
pub mod Session
pub mod Words
pub mod Begins
pub mod TakingIn
pub mod Events
pub mod Aborts
pub mod Ticking
pub mod Resets
