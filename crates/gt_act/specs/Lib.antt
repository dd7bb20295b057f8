pub mod Adding
pub mod PartitionState
pub mod Cat
pub mod Causes
pub mod Ended
pub mod Live
pub mod Turning
