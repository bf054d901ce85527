pub mod View
pub mod Rule
pub mod Steps
pub mod Known
pub mod Facts
pub mod Laws
