pub mod Falling
pub mod Graph
pub mod Matched
pub mod Matcher
pub mod Resting
pub mod Steps
