pub mod Marks
pub mod Amounts
pub mod ToldWords
pub mod Entries
pub mod Terms
pub mod ToldCommands
pub mod Events
