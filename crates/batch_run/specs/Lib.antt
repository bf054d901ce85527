pub mod Ahead
pub mod Conducts
pub mod Opened
