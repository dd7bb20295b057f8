pub mod Sessions
pub mod Courses
pub mod Calls
pub mod Pieces
pub mod Together
