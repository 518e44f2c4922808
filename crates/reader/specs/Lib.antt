-- The root of the crate's definitions, in the order in which to read them.
pub mod Answer
pub mod Table
pub mod Ends
pub mod Network
