pub mod AngleLaws
pub mod SphereLaws
