pub mod Parts
pub mod Safe
pub mod Moves
pub mod Runs
