pub mod Limits
pub mod Tables
pub mod Steps
