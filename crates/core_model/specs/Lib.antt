pub mod State
pub mod Iterations
pub mod Machine
pub mod Rules
pub mod Laws
pub mod Ties
