-- What the private steps of the code are stated with; no part of what a reader must believe.
pub mod Labels
pub mod Meets
pub mod Variables
pub mod Bytes
pub mod Plain
