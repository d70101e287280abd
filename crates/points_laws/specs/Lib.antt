pub mod Theorems
pub mod RefusalTheorems
pub mod RoundTripTheorems
