pub mod Alike
pub mod Unfit
pub mod Clash
