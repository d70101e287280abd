pub mod Spans
pub mod Chains
pub mod AnswerLaws
pub mod FirstFailed
