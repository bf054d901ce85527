pub mod Token
pub mod Tokens
pub mod Fields
pub mod Seen
pub mod Says
