pub mod Plan
pub mod Seen
pub mod Steps
pub mod Fitting
