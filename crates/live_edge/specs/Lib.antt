pub mod Stories
pub mod Steps
pub mod Rounds
pub mod Joins
pub mod Edges
pub mod Slow
