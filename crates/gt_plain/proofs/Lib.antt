pub mod Firsts
pub mod Folders
pub mod Maps
pub mod Union
