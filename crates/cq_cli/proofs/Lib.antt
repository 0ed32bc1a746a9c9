mod AbsentNames
pub mod Telling
mod Lines
pub mod Held
