pub mod TalkLemmas
pub mod HistoryLemmas
pub mod ConversationLemmas
pub mod SeenLemmas
pub mod LedgerLemmas
pub mod SinkLemmas
pub mod PairingLemmas
mod TallyLemmas
mod Examples
