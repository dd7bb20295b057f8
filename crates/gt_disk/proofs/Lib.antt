pub mod Steps
mod Copied
mod Kept
mod Replay
mod Leaving
mod Planned
mod Chosen
