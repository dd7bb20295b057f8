pub mod Alike
pub mod Repositories
pub mod Logs
pub mod Steps
