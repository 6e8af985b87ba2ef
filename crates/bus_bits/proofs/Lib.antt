pub mod BitLemmas
pub mod CaseLemmas
pub mod ListLemmas
pub mod OctetLemmas
pub mod OneMoreLemmas
pub mod ProductLemmas
pub mod WordLemmas
