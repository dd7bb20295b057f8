pub mod Lists
pub mod Rows
pub mod Planned
pub mod Records
pub mod Kept
pub mod Advances
