pub mod Reached
pub mod Steps
