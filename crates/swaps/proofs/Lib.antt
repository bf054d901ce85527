pub mod SwapLemmas
pub mod PutAllLemmas
