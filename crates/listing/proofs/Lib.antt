pub mod Handed
pub mod Ordered
pub mod Standing
pub mod Walk
