pub mod TokenLemmas
pub mod Lexing
pub mod FieldLemmas
pub mod PrintedLines
pub mod FieldFacts
