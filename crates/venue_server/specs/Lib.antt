pub mod Asking
pub mod Ending
pub mod Listed
pub mod Outcomes
pub mod Seating
