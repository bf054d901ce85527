pub mod Setting
pub mod Keeping
pub mod TailTasks
pub mod TailAmounts
pub mod TailStep
