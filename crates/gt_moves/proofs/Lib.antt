pub mod Spaces
pub mod Members
pub mod Numbers
pub mod Records
pub mod Stands
