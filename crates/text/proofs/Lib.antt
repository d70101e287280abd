pub mod Pasting
pub mod Cutting
pub mod Searching
pub mod Sameness
pub mod Digits
pub mod Numerals
pub mod Printing
