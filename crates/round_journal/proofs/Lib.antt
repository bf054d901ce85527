pub mod Shapes
pub mod Replaying
