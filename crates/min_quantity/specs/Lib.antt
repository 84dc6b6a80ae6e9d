pub use Rattle.eager_meaning.specs.Floor
pub use Rattle.eager_meaning.specs.Walk
