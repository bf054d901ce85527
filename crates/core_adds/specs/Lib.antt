pub mod Coded
pub mod Differences
pub mod Sides
