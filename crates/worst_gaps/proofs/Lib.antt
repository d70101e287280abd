mod ReadBack
pub mod Sequence
pub mod GapLaws
mod BackLaws
pub mod Runs
