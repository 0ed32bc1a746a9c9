-- What the private steps of the code are stated with; no part of what a reader must believe.
pub mod Rules
pub mod Marks
pub mod Copies
pub mod Pair
pub mod Room
pub mod Receipts
