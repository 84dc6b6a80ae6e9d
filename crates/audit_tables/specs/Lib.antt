pub mod Trades
pub mod Quotes
pub mod Tables
pub mod Cells
pub mod Asked
pub mod Again
pub mod Sought
