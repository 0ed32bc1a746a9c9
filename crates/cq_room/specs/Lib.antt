pub mod Marks
pub mod Seen
pub mod Pair
pub mod Sessions
pub mod Receipts
pub mod Faults
pub mod Parts
pub mod Steps
