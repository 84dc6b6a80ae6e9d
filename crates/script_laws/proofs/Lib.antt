pub mod DeskAlike
pub mod FeedAlike
pub mod LineHistories
pub mod RecordedCommands
pub mod ScriptHistories
pub mod Sending
