pub mod TakenWords
pub mod Spreading
