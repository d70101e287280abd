pub mod Sine
pub mod Theorems
pub mod InnerCorrection
pub mod InnerFolding
pub mod InnerLines
