pub mod CallerLemmas
mod Examples
pub mod Answering
pub mod Asking
pub mod Cutting
pub mod Dumps
pub mod Empty
pub mod Ending
pub mod Ends
pub mod Finds
pub mod Kept
pub mod Leaving
pub mod Lives
pub mod Obeying
pub mod Parts
pub mod Runs
pub mod Scripts
pub mod Served
pub mod Sums
mod Resetting
