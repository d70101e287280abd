pub mod Reading
pub mod RoundingLaws
pub mod AuthalicLaws
