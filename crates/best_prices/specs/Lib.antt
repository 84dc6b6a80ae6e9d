pub mod NextBest
