pub mod Log
pub mod Mount
pub mod State
