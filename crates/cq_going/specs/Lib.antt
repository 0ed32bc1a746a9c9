pub mod Reasons
pub mod Going
pub mod Grouping
pub mod Boxes
pub mod Data
pub mod Steps
