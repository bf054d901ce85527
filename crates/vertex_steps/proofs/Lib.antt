pub mod Pulls
pub mod Adding
pub mod Applying
pub mod Rounds
