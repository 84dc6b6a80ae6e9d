-- Lemmas on moves.
pub mod Halving
pub mod LastBelow
pub mod Rising
