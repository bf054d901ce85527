mod NameSteps
mod EngineSteps
mod ReadSteps
mod TextSteps
