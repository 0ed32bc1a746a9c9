pub mod Csv
pub mod Steps
