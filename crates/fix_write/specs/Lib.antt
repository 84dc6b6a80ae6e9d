pub mod Digits
pub mod Fields
pub mod Framing
pub mod Lengths
pub mod MessageTypes
pub mod Moments
