pub mod Spelling
pub mod Reading
pub mod Index
pub mod Answers
pub mod Laws
pub mod Building
