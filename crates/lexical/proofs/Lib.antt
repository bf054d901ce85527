pub mod Splitting
pub mod WordLemmas
pub mod PlaceLemmas
pub mod LineLemmas
pub mod NumberLemmas
