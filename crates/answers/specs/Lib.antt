-- Document 01's answers: the letters, and the line that answers a record.
pub mod Letters
pub mod Answer
