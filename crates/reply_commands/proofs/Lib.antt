mod CheckSteps
mod MakeSteps
