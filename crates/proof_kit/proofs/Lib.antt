-- The modules of the kit, in the order in which they build on each other.
pub mod Laws
pub mod Ring
pub mod Size
pub mod Order
pub mod Certificate
pub mod Range
pub mod Examples
