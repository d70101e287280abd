pub mod NumeralLaws
pub mod CodeLaws
pub mod AnswerLaws
pub mod ReadingLaws
pub mod Witnesses
