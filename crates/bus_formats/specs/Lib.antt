-- Definitions that the contracts cite.
pub mod Capture
pub mod Packed
pub mod Internal
