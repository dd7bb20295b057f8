pub mod Called
pub mod Mounts
pub mod Shown
