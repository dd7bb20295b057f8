pub mod Tracks
pub mod Table
pub mod Agree
pub mod Lean
pub mod Raised
