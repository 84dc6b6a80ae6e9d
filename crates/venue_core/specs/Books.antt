-- The books of a venue that is made of a config.
use Rattle.std.specs.Prelude.{◌≡◌, ℕ, []}
use Rattle.venue_words.specs.Conditions.{IsTick}
use Rattle.symbol_book.specs.Book.{BookView}

-- a book without events, of so many markets
pub record IsNewBook (markets : ℕ) (book : BookView) : Type 0 where
  pub markets_are : book.markets ≡ markets
  pub tick : IsTick book.tick
  pub empty : book.journal ≡ []
