pub mod LineLaws
pub mod NameLaws
pub mod FirstFrames
pub mod Silences
