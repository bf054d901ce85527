pub mod State
pub mod Making
