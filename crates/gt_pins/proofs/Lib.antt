pub mod LiveLists
pub mod Numbers
pub mod Positions
