pub mod Files
pub mod Loads
pub mod Later
pub mod Switches
pub mod Adds
pub mod Example
