pub mod JudgeSteps
pub mod ReadSteps
