pub mod AnsweringLaws
pub mod Hearing
pub mod Laws
pub mod Work
pub mod WorkLaws
