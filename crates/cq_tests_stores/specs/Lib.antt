pub mod Guarded
pub mod Reasons
