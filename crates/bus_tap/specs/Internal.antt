-- What proofs and private functions speak of: the state behind a contract, and what holds of it between two steps.
pub mod RestView
pub mod Held
pub mod Tallies
pub mod Taps
pub mod Counts
pub mod Quiet
