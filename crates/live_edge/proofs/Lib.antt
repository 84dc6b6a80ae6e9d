pub mod Walks
pub mod LineLaws
pub mod Tables
pub mod Joining
