-- What the private steps of the code are stated with; no part of what a reader must believe.
pub mod Splitting
pub mod Several
