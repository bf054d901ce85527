pub mod EntryLemmas
pub mod SettleLemmas
