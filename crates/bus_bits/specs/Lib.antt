-- Definitions that the contracts cite.
pub mod Limits
pub mod Octet
pub mod Word
pub mod Bits
pub mod Text
