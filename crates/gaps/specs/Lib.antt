pub mod InnerGaps
