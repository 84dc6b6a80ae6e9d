pub mod Columns
pub mod Resting
