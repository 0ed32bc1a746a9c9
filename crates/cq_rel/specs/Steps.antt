-- What only private steps are stated with: how tables are kept.
pub mod Table
pub mod Column
pub mod Kept
