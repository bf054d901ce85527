pub mod LivedSteps
pub mod ReplySteps
