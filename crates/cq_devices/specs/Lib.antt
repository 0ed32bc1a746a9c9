pub mod Limits
pub mod Device
