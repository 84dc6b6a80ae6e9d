pub mod Days
pub mod Shelves
