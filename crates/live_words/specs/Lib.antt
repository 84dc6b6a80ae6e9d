pub mod Lines
pub mod Naming
pub mod Access
pub mod Words
pub mod Markets
pub mod Silence
pub mod Frames
