-- Definitions that the contracts cite.
pub mod Arrival
pub mod Places
pub mod Lines
pub mod Laws
pub mod Rested
pub mod Sampled
pub mod Stopped
pub mod Facts
pub mod Tapped
pub mod Words
pub mod Blocks
pub mod Recorded
pub mod Internal
