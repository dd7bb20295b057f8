pub mod Refusing
pub mod Checks
pub mod Folders
