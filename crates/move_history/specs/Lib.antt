pub mod Kept
pub mod Staircase
