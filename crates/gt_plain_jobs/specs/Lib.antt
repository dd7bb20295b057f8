pub mod Files
pub mod Marking
