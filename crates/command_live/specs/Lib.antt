pub mod Replies
pub mod ConductsLive
pub mod Words
