pub mod SeriesLaws
pub mod ScaleLaws
pub mod ConstantsLaws
