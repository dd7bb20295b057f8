pub mod Lists
pub mod OneRepo
pub mod Finding
pub mod Contents
pub mod Packed
mod Headings
mod Switches
mod SwitchImages
