pub mod Tests
pub mod Beta
pub mod Centre
pub mod Edge
pub mod Ranges
pub mod Refusals
pub mod Witnesses
