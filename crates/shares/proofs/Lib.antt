-- The modules of the proofs, in the order in which they build on each other.
pub mod Places
pub mod Counting
pub mod Rule
