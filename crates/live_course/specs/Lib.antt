pub mod Made
pub mod Replied
pub mod Lines
pub mod Live
