pub mod Ends
pub mod Reading
pub mod EndList
pub mod EndLaws
