pub mod Broken
pub mod Components
pub mod Digits
pub mod Paths
pub mod References
pub mod Refusals
