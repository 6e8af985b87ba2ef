pub mod FramesLemmas
pub mod SendingLemmas
pub mod WatchingLemmas
