pub mod Requests
pub mod Long
