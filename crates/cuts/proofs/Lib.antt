-- The root of the crate's laws, in the order in which they build on each other.
pub mod Reached
pub mod Cutting
