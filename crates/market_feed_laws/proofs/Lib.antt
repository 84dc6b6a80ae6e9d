pub mod Plain
pub mod Reading
pub mod Snapshots
pub mod Whole
pub mod Written
