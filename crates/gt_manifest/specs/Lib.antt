pub mod Answers
pub mod Spelling
pub mod Reading
pub mod Whole
