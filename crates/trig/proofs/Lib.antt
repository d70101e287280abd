pub mod Minute
pub mod Arc
pub mod Quarter
pub mod Fraction
pub mod Symmetry
pub mod Folding
pub mod Turns
pub mod Interface
