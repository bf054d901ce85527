pub mod Prefixes
pub mod Adding
pub mod Going
pub mod Flat
pub mod Roomy
pub mod PlacesAre
pub mod Keeping
