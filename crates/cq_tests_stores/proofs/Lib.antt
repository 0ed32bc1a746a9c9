pub mod Inserted
pub mod Kept
pub mod Lists
pub mod Numbered
