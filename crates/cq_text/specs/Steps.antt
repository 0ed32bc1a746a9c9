-- What the private steps of the code are stated with; no part of what a reader must believe.
pub mod Words
pub mod Commands
pub mod Lexing
pub mod Binding
pub mod Lexemes
pub mod Lists
pub mod Reader
pub mod Separators
