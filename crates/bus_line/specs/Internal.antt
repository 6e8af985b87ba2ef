-- What proofs and private functions speak of: the state behind a contract, and what holds of it between two steps.
pub mod LineView
pub mod Settled
pub mod Flags
pub mod TimeFill
pub mod AdvancesTo
pub mod EndedMark
pub mod Inserting
pub mod EncoderView
pub mod Tracks
pub mod StuffingWriter
