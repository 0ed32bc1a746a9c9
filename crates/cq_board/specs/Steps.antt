-- What the private steps of the code are stated with; no part of what a reader must believe.
pub mod Supply
pub mod Runs
pub mod Choices
pub mod Residents
pub mod Stores
pub mod Scratch
pub mod Flags
pub mod Waiting
pub mod Linear
pub mod Nearest
pub mod Heads
pub mod Left
pub mod Laws
pub mod Setup
