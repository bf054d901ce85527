pub mod WeightLemmas
pub mod IndexLemmas
pub mod DraftLemmas
pub mod SoundLemmas
pub mod ReadLemmas
pub mod OpenLemmas
pub mod BatchLemmas
