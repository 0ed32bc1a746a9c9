pub mod Roster
pub mod Steps
