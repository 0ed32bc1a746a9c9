pub mod History
pub mod Replies
pub mod Desk
pub mod Submission
pub mod Plain
pub mod Machine
pub mod Standing
pub mod Steps
