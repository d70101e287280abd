pub mod InnerPositions
pub mod InnerGaps
pub mod InnerTallies
