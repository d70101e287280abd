pub mod Near
pub mod Greatest
pub mod InnerSearch
pub mod Root
pub mod Rounds
pub mod Theorems
