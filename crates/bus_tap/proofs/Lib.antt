pub mod EachLemmas
mod AlikeLemmas
pub mod ArrivalLemmas
pub mod ArrivedLemmas
pub mod PlacesLemmas
pub mod LocatedLemmas
pub mod LinesLemmas
pub mod QuietLemmas
pub mod RestLemmas
mod RestLawLemmas
pub mod SampledLemmas
pub mod SameSampleLemmas
pub mod CountedLemmas
pub mod FactsLemmas
pub mod StopLemmas
pub mod TapLemmas
pub mod HeldLemmas
pub mod OnesLemmas
mod CarryLemmas
mod CountedBlockLemmas
pub mod BlockLemmas
mod LaneLemmas
mod WireLemmas
