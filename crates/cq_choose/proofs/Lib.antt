pub mod Lists
pub mod Stocks
pub mod Terms
pub mod Kept
mod Onward
pub mod Reaching
pub mod Offered
pub mod Concerned
pub mod Enough
pub mod Selections
pub mod Goods
pub mod Turns
pub mod Lacks
pub mod Disagreements
