pub mod Points
pub mod Sphere
pub mod InnerSizes
