pub mod Queues
pub mod Levels
