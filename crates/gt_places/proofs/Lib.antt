pub mod Lengths
pub mod Cases
pub mod Records
pub mod Changes
pub mod Logs
