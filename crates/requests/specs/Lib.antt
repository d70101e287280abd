pub mod Requests
pub mod Theorems
