-- What the private steps of the code are stated with; no part of what a reader must believe.
pub mod Falls
pub mod Walking
pub mod Dumping
pub mod Numbering
pub mod Telling
