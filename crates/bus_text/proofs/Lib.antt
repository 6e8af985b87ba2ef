pub mod KnownBytesLemmas
pub mod PagesLemmas
pub mod ListingLemmas
pub mod SummaryLemmas
pub mod ShowLemmas
mod HexLemmas
mod NumberLemmas
mod Examples
