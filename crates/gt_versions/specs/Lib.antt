pub mod Ascending
pub mod Versions
pub mod Lives
pub mod Runs
pub mod Raised
