pub mod CellLaws
pub mod Lengths
pub mod WritingLaws
pub mod Witnesses
