pub mod SearchLemmas
pub mod TakingLemmas
pub mod SourceLemmas
pub mod TaskLemmas
