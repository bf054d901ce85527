mod DrawLemmas
mod EditLemmas
mod EdgeLemmas
pub mod FewEnds
pub mod MadeLemmas
