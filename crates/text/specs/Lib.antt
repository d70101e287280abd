pub mod Ascii
pub mod Numbers
pub mod Pasting
pub mod Cutting
pub mod Theorems
