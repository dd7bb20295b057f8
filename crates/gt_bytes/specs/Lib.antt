pub mod Reading
pub mod Spelling
pub mod Answers
pub mod Standing
pub mod Laws
