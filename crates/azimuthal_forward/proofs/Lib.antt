pub mod ForwardLaws
pub mod AnswerLaws
pub mod StageLaws
