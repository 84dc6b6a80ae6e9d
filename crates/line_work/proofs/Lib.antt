pub mod DeskWork
pub mod Fresh
pub mod Kept
pub mod LineReads
pub mod Stops
pub mod Submitted
