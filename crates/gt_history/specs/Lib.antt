pub mod Crash
pub mod Runs
