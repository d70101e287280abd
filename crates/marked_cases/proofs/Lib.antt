pub mod Sphere
pub mod Marked
