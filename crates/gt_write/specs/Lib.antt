pub mod Checking
pub mod Writing
