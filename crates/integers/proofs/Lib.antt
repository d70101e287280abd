pub mod Signs
pub mod Rounding
pub mod Greatest
pub mod Halving
pub mod Squares
pub mod Digits
pub mod Meanings
