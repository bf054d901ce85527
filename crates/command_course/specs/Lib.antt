pub mod Course
pub mod Programs
pub mod Openings
pub mod Still
