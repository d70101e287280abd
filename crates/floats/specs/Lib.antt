pub mod Conversion
pub mod Limits
pub mod InnerKinds
