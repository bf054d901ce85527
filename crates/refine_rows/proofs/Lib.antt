mod MergeLemmas
pub mod PickLemmas
pub mod ReadLemmas
pub mod PutLemmas
mod MentionLemmas
pub mod AgainLemmas
