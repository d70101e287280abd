pub mod RoundTrip
pub mod Theorems
pub mod ConditionTheorems
