pub mod BatchesAhead
pub mod EndSteps
pub mod FileLists
pub mod QuestionEnds
