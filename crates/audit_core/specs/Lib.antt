pub mod Audited
pub mod Telling
pub mod Differing
pub mod Progress
pub mod Ahead
pub mod Fronts
pub mod Names
