pub mod Answered
pub mod Rank
