pub mod Connections
pub mod Cursors
pub mod Frames
pub mod Looking
pub mod Ranges
pub mod Spans
pub mod WholeTurns
pub mod Views
