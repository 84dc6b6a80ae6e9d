pub mod Feeds
pub mod Working
