pub mod Units
pub mod Spans
pub mod Refusals
pub mod Answers
