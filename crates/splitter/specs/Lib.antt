pub mod Carrying
pub mod Splitting
pub mod Theorems
