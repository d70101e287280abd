pub mod Latitude
pub mod InnerSizes
pub mod InnerRounding
