pub mod Picked
pub mod Over
pub mod Progress
pub mod Refining
pub mod Seen
pub mod ValueRows
pub mod RowValues
pub mod Laws
