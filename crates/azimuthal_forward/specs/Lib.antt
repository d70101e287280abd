pub mod Steps
pub mod Answer
pub mod InnerStages
