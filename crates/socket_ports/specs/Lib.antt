pub mod Reads
pub mod Flows
pub mod Flowing
pub mod Places
