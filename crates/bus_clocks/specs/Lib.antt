-- Definitions that the contracts cite.
pub mod Clocks
pub mod Laws
pub mod Ledger
pub mod Headline
pub mod Internal
