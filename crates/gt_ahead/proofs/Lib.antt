pub mod Lists
pub mod Parts
pub mod Asked
pub mod Manifests
pub mod Numbers
pub mod Older
pub mod Frame
pub mod Elsewhere
pub mod MovedOn
pub mod Added
pub mod Choices
pub mod Counters
pub mod Switched
pub mod Entered
mod Empty
mod OneEntry
