pub mod Faults
pub mod Told
pub mod Written
pub mod Whole
pub mod Fakes
