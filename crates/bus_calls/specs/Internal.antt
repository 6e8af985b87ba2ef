-- What proofs and private functions speak of: the state behind a contract, and what holds of it between two steps.
pub mod Kinds
pub mod Headed
pub mod OneLine
pub mod TwoLines
pub mod Arrivals
pub mod Watching
pub mod Reporting
pub mod ReportingLaws
pub mod Sessions
pub mod Reading
pub mod Closes
pub mod Asked
pub mod EncodeState
