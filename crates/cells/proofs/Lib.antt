pub mod Sides
pub mod GreatestWhole
pub mod Counting
pub mod NumberLaws
pub mod Inside
pub mod AnswerLaws
pub mod Witnesses
pub mod Calls
