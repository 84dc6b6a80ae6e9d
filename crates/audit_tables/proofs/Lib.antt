pub mod Pairing
pub mod Putting
pub mod Quoting
pub mod Retelling
