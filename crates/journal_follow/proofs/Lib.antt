pub mod Finding
pub mod Pieces
pub mod Growing
pub mod Looking
