pub mod Writes
pub mod Refusals
