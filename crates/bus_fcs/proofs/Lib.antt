pub mod DivisionSumLemmas
pub mod DivisionLemmas
pub mod FrameCheckLemmas
pub mod LawsLemmas
pub mod RegisterLemmas
pub mod TableLemmas
pub mod FoldLemmas
mod Examples
