pub mod FollowLaws
pub mod LeftLaws
pub mod MovedLaws
pub mod Rooms
pub mod SeedLaws
