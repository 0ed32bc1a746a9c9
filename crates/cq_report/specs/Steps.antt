-- Definitions that only private steps are stated with.
pub mod Lines
pub mod Turns
pub mod Written
pub mod Count
pub mod Writing
pub mod Kept
pub mod Finds
pub mod Serving
pub mod Playing
