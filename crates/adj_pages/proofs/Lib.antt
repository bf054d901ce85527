pub mod SortedLemmas
pub mod IndexLemmas
pub mod MarkLemmas
pub mod SplitLemmas
pub mod EditedLemmas
pub mod PageLemmas
pub mod FormLemmas
