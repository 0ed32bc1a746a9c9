pub mod Choosing
pub mod Disagreement
pub mod Steps
