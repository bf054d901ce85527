pub mod Stops
pub mod Files
pub mod Reads
pub mod Replied
