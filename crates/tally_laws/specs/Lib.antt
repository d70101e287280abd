pub mod Histories
pub mod Theorems
