pub mod InverseLaws
pub mod AnswerLaws
pub mod StageLaws
