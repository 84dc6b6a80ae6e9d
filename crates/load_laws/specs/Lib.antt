pub mod LoadFrameLaws
pub mod LoadScript
pub mod LoadTextLaws
