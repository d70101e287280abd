-- The modules of the proofs, in the order in which they build on each other; the laws for other crates are in Coordinates.
pub mod Fractions
pub mod Signs
pub mod Bounds
pub mod Pattern
pub mod Product
pub mod Quotient
pub mod Coordinates
pub mod PaperCases
