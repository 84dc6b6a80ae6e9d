pub mod Reading
pub mod ReadingLaws
pub mod Seeking
pub mod NextLines
pub mod NextLaws
pub mod Over
pub mod ConfigFile
pub mod Endings
