-- The root of the crate's laws.
pub mod Bytes
pub mod Plan
