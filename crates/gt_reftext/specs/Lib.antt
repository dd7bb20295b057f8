pub mod Loose
pub mod Lines
pub mod Packed
pub mod Spelling
pub mod Answers
