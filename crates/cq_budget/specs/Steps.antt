pub mod Rules
pub mod Ends
