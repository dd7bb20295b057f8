pub mod Programs
pub mod Framing
pub mod Counters
pub mod Apart
