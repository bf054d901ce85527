pub mod Lines
pub mod Numbers
pub mod Feed
pub mod Answers
pub mod Reading
