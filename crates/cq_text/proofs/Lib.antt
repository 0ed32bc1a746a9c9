pub mod Again
pub mod Binds
pub mod Blank
pub mod Bound
pub mod Commands
pub mod Derive
pub mod Examples
pub mod Fronts
pub mod Laws
pub mod Lexemes
pub mod Loops
pub mod Machine
pub mod Names
pub mod Numbers
pub mod OneReading
pub mod Quotes
pub mod Refusals
pub mod Runs
pub mod Scan
pub mod Taken
pub mod Utf8
pub mod Walks
pub mod Words
mod PrintedEscapes
mod PrintedItems
mod PrintedTokens
mod PrintedBack
mod PrintedCommands
mod PrintedLines
mod PrintedLengths
mod PrintedBound
mod Made
mod Passed
mod Queried
