pub mod Reverse
pub mod InnerSearch
pub mod InnerThreshold
