mod ProgramSteps
pub mod BothSteps
