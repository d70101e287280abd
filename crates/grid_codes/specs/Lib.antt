pub mod Codes
pub mod Theorems
