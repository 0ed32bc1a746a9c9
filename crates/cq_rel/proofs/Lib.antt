pub mod CallerLemmas
pub mod Catalogs
pub mod Order
pub mod Filters
pub mod Rows
pub mod Places
pub mod Kept
pub mod Edits
pub mod Members
pub mod Whole
pub mod Undone
pub mod Parted
pub mod Firsts
pub mod Ordered
pub mod Turned
pub mod Permuted
pub mod Columns
mod Copied
mod Refused
mod Declared
