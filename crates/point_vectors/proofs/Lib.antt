pub mod StepLaws
pub mod OutcomeLaws
