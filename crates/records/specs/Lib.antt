-- The root of the crate's definitions.
pub mod Bytes
pub mod Plan
