pub mod BestQuotes
pub mod Complete
pub mod ReadBack
