-- What is proved of the definitions: laws for the crates above, then what the functions' proofs use.
pub mod HandedOver
pub mod Overlong
pub mod Texts
pub mod Records
