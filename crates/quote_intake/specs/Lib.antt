pub mod Price
pub mod Quote
pub mod Words
