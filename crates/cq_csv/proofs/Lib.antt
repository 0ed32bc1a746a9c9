pub mod Csv
pub mod Fronts
