pub mod Ask
pub mod Answer
pub mod Data
pub mod Choices
pub mod Find
pub mod Steps
