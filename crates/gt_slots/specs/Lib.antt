pub mod Slots
pub mod Pages
pub mod Present
pub mod Listing
pub mod Clashing
pub mod Raised
