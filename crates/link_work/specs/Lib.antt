pub use Rattle.io_edge.specs.Clocks
pub use Rattle.io_edge.specs.Links
pub mod Ends
pub mod Turns
