pub mod EntryLog
pub mod Table
pub mod Seeds
