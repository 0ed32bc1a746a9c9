pub mod Groups
pub mod Steps
