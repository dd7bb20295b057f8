pub mod Counting
pub mod Claimed
pub mod Ticketed
pub mod Known
pub mod Working
pub mod Workers
