-- What the code is stated with beside the definitions; no part of what a reader must believe.
pub mod Turns
