pub mod ArrivalPlanesLemmas
pub mod CaptureLemmas
pub mod EightBitsLemmas
pub mod EightBitsOfNineLemmas
pub mod FrontLemmas
pub mod GatherLemmas
pub mod PackedLemmas
pub mod PairBlockLemmas
pub mod PairWordsLemmas
pub mod PairsLemmas
pub mod TextBitsLemmas
pub mod TextBlockLemmas
pub mod TextMarksLemmas
mod Examples
