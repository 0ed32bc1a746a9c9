pub mod Separated
pub mod Listed
pub mod Tellings
pub mod Tokens
pub mod JsonTellings
