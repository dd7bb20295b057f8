pub mod Staging
pub mod Layout
