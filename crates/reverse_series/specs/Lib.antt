pub mod InnerSeries
