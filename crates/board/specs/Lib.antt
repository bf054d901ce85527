pub mod Halls
pub mod Law
pub mod Log
pub mod Marks
pub mod Post
pub mod Queries
pub mod Rules
pub mod Sheets
