pub mod Counting
pub mod Steps
pub mod Budgets
