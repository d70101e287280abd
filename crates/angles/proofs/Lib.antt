pub mod Angles
pub mod OneTest
