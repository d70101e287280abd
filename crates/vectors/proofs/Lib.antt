pub mod SeriesLaws
pub mod CellLaws
