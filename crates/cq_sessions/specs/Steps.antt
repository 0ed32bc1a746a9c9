-- Definitions that only private steps are stated with.
pub mod Sheets
pub mod Clients
pub mod Settings
pub mod Rooms
