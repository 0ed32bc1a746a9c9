pub mod CallerLemmas
pub mod Pages
pub mod Pieces
pub mod Arrays
pub mod Ordered
pub mod Walked
pub mod Telling
pub mod Explained
mod Flagged
pub mod Numbers
mod Liked
mod Mapped
mod Lines
mod Present
mod Chosen
mod Whether
mod ByRelation
mod Examples
mod Dumped
