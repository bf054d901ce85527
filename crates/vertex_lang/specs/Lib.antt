pub mod Keywords
pub mod Entries
pub mod Drafts
pub mod Canonical
pub mod ProgramOf
pub use Rattle.vertex_expr.specs.Writable
pub use Rattle.text_words.specs.Says
