pub mod Iterating
pub mod Applying
