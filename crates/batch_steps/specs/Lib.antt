pub mod Steps
pub mod Files
pub mod Course
pub mod Graphs
pub mod Ended
