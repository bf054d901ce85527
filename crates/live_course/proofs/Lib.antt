pub mod Counts
pub mod LineSteps
pub mod MadeSteps
pub mod RepliedSteps
