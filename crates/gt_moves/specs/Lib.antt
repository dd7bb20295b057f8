pub mod Moves
pub mod Laying
pub mod Within
pub mod Standing
