pub mod Standing
pub mod Lives
