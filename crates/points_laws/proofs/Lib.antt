pub mod Rows
pub mod Floats
pub mod Converted
pub mod Whole
pub mod Listed
pub mod Refusals
pub mod Witnesses
pub mod RoundTrip
