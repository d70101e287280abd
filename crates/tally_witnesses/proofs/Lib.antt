-- The modules of the proofs.
pub mod FullCell
pub mod Witnesses
