pub mod Taking
pub mod Transcript
