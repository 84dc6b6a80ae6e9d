pub mod Answering
pub mod Copies
pub mod Desks
pub mod Looks
pub mod Plans
pub mod Rounds
pub mod Sessions
