pub mod AcceptedSet
pub mod Fields
