pub mod Hearing
pub mod HearingLaws
pub mod Messages
pub mod Quotes
