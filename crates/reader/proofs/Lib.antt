-- The root of the crate's laws, in the order in which they build on each other.
pub mod Passed
pub mod Judged
pub mod Turn
pub mod Sound
pub mod Numbered
pub mod Ends
pub mod Told
pub mod Cut
pub mod Outcomes
