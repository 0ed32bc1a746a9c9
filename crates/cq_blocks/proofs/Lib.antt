pub mod Lists
pub mod Vecs
pub mod Halving
pub mod Ranges
pub mod Copies
pub mod CallerLemmas
pub mod Retained
pub mod Ends
pub mod Flat
pub mod Fates
mod Within
mod Yielded
mod Edited
