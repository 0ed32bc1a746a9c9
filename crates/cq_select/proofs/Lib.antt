pub mod Asking
pub mod Beginning
pub mod Filtering
pub mod Reading
pub mod Refuting
pub mod Trailing
pub mod Turning
