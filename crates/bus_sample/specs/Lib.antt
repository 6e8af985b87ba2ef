-- Definitions that the contracts cite.
pub mod Recording
pub mod Marks
pub mod Facts
pub mod Counted
pub mod Samples
pub mod Looks
pub mod Laws
pub mod Internal
