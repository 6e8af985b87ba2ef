-- What proofs and private functions speak of: the tests that a contract hides.
pub mod Marks
pub mod Packs
