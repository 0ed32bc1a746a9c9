pub mod Adding
mod Steps
mod Calls
