-- Definitions that the contracts cite.
pub mod Reports
pub mod Faults
pub mod Executes
