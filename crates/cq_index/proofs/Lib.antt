pub mod Changes
pub mod Views
pub mod Indexed
pub mod Listed
mod Firsts
mod Filled
mod Counted
pub mod Candidates
pub mod Joined
pub mod Gathered
pub mod Picked
pub mod Partners
pub mod Copied
pub mod CallerLemmas
