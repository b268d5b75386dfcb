-- What the contracts of rows cite: the words that each function leaves, and what it is for words to hold rows.
pub mod Words
pub mod Rows
pub mod Searches
