-- What the private steps of the code are stated with; no part of what a reader must believe.
pub mod Goods
pub mod Same
pub mod Reach
pub mod Offers
pub mod Stocks
pub mod Answers
pub mod Telling
