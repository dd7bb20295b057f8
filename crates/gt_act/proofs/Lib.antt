pub mod Causes
pub mod Stepping
pub mod Commits
pub mod Looking
pub mod Applied
