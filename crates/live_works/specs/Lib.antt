pub mod Beside
pub mod Shop
