-- The root of the crate's theorems, in the order in which to read them.
pub mod Rows
pub mod Best
pub mod Levels
pub mod Cutters
pub mod Refusals
pub mod Progress
pub mod Orders
pub mod Paths
pub mod Ends
pub mod Steps
pub mod Lawful
pub mod Rounds
pub mod Choices
pub mod Loop
pub mod Places
pub mod Small
