pub mod Derived
pub mod InnerPrepared
