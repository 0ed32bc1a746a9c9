pub mod CallerLemmas
pub mod Shows
pub mod Merges
pub mod Meets
pub mod Glue
pub mod Closes
pub mod Bindings
pub mod Bound
pub mod Names
pub mod Plain
pub mod Firsts
pub mod Among
pub mod Finite
mod Arity
mod Upto
mod Onward
mod Never
mod SameVariable
