pub mod Reach
pub mod Marking
pub mod Reading
