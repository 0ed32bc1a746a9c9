pub mod Falls
pub mod Counts
pub mod Kept
pub mod Places
pub mod Settle
pub mod Resting
