pub mod Asked
pub mod Closed
pub mod Listings
pub mod Lists
pub mod Outcomes
pub mod Seats
