pub mod Lived
pub mod Opened
pub mod Turns
