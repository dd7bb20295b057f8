pub mod Histories
pub mod Calling
pub mod Objects
