pub mod ParameterSet
pub mod FieldTheorems
