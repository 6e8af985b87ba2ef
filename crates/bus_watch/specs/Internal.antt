-- What proofs and private functions speak of: the state behind a contract, and what holds of it between two steps.
pub mod AnalyserView
pub mod PairView
