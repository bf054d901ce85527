pub mod Index
pub mod Marked
pub mod Stored
