pub mod Alike
pub mod Desks
pub mod Histories
