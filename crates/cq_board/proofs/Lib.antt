pub mod CallerLemmas
mod Values
pub mod Picked
pub mod Pieces
pub mod Left
pub mod Looked
pub mod Members
pub mod Searches
pub mod Examples
pub mod Places
pub mod Ends
pub mod Crowds
pub mod Agreement
pub mod Among
pub mod Coordination
pub mod Law
pub mod Scratched
pub mod Walks
pub mod GoodPools
pub mod KeptIn
pub mod Refusals
pub mod Residents
pub mod Pairwise
pub mod Positions
pub mod Graphs
pub mod Sorted
pub mod Upkeep
mod ViewSeats
mod Waited
mod Told
mod Missing
mod Nearest
mod Apart
mod Grouped
mod Waiters
pub mod Placed
pub mod Linked
pub mod Calling
pub mod Leaving
pub mod Shows
pub mod Rows
pub mod RowChanges
pub mod RowsIn
pub mod Opened
pub mod Shown
pub mod Touching
pub mod Stored
pub mod WorkCounts
pub mod WorkStores
pub mod WorkLost
pub mod Flags
mod Led
mod Contents
mod Declaring
mod Setups
