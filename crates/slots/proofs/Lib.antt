-- The modules of the proofs, in the order in which they build on each other.
pub mod Searching
pub mod Places
