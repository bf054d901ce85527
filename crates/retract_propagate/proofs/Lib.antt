pub mod ApplyLemmas
pub mod RoundLemmas
