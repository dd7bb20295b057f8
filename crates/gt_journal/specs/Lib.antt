pub mod Ledger
pub mod Carried
pub mod Histories
pub mod Loading
pub mod Applying
