pub mod Book
pub mod Replays
