pub mod Shown
pub mod References
pub mod Objects
pub mod Typed
pub mod Repos
pub mod Courses
pub mod Filing
pub mod Segments
pub mod Paths
pub mod Applications
mod Listed
mod Pools
mod Few
