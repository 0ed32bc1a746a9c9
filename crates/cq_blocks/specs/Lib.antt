pub mod Blocks
pub mod Fate
