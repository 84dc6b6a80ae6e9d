pub mod Alike
pub mod Departures
pub mod FeedsText
pub mod Days
