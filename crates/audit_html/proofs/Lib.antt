pub mod Harmless
pub mod Boxing
