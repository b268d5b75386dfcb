-- Document 01's records: the text of a line, then what a line says and what reading it promises.
pub mod Text
pub mod Record
