pub mod BatchSteps
pub mod StreamSteps
pub mod FinishSteps
pub mod ReplySteps
