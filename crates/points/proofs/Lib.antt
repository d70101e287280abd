pub mod AnswerLaws
pub mod StageLaws
