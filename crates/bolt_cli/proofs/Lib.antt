pub mod AnswerSteps
pub mod EndSteps
pub mod LiveSteps
pub mod PlaceSteps
pub mod WordSteps
