pub mod InnerRows
pub mod InnerSeries
