pub mod Found
pub mod Removed
pub mod Added
mod Walked
pub mod CallerLemmas
