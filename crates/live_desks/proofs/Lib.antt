pub mod Replying
pub mod Finishing
pub mod Turns
