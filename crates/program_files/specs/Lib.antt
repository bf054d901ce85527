pub mod Judged
pub mod ProgramFile
