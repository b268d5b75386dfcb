-- What a reader must believe of the library for C: what a number of C means (Meaning), what an answer is in C (Forms), what an
-- exported call promises (Exported), that C's numbers are document 01's (Exact), and that C's calls are a session of the desk (Sessions).
pub mod Meaning
pub mod Forms
pub mod Exported
pub mod Exact
pub mod Sessions
