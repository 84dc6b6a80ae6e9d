-- Lemmas on rows in order and on balanced trees of them.
pub mod Finding
pub mod Heights
pub mod Highest
pub mod InOrder
pub mod Inserting
pub mod LeastEntry
pub mod Searching
