pub mod Removing
pub mod Unnamed
