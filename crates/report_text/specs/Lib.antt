pub mod Lines
pub mod Values
pub mod Refusals
pub mod Programs
pub mod Runs
