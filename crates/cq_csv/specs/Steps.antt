-- What only private steps are stated with: how records are read one after another.
pub mod Csv
