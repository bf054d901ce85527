mod ReadSteps
mod WordSteps
