pub mod State
pub mod Cells
pub mod EngineOf
pub mod Opening
pub mod Preparing
pub mod Prepared
pub mod Parts
