pub mod Consumed
pub mod Failing
pub mod Places
pub mod Plans
pub mod Reading
pub mod Written
