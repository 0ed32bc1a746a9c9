-- What the private steps of the code are stated with; no part of what a reader must believe.
pub mod Separators
pub mod Answers
pub mod Tokens
