pub mod Choices
pub mod NextLaws
