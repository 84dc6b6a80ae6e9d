pub mod Commands
pub mod Lines
pub mod Listing
pub mod Walking
pub mod Handing
