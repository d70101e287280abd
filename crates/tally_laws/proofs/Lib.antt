-- The modules of the proofs, in the order in which they build on each other.
pub mod Lists
pub mod Cells
pub mod Loops
pub mod Slots
pub mod Placing
pub mod Sums
pub mod Calls
pub mod Invariant
pub mod Histories
pub mod TwoHistories
pub mod Alone
