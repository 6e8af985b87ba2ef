pub mod MarksLemmas
pub mod RecordLemmas
pub mod RunLemmas
pub mod ReadLemmas
pub mod CloseLemmas
pub mod LookLemmas
pub mod ReadBackLemmas
