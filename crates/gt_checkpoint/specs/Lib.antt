pub mod Advancing
pub mod Writing
