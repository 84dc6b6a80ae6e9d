pub mod Commands
pub mod Growing
pub mod Numbering
pub mod Places
