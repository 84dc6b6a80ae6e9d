pub mod Html
pub mod Numbers
pub mod Chunks
