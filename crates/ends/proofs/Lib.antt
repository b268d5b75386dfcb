-- What is proved of the definitions: laws for the crates above, then what the functions' proofs use.
pub mod Laws
pub mod Small
pub mod Table
