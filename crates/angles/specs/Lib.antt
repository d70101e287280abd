pub mod Angle
pub mod InnerSearch
pub mod InnerTrial
pub mod InnerEstimate
pub mod InnerThreshold
