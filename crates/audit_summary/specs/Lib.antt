pub mod Counting
pub mod Columns
pub mod Summaries
pub mod Sums
