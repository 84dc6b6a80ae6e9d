-- A journal that is worked once more.
use Rattle.std.specs.Prelude.{◌≡◌, ℕ, List, [], length}
use Rattle.venue_words.specs.declared.config.Config.{Config}
use Rattle.symbol_book.specs.Book.{BookView}
use Rattle.audit_core.specs.declared.part.OpenPart.{OpenPart}
use Rattle.audit_core.specs.Progress.{IsOpen}

-- the part has none of the events of a book yet, and room for all of them
pub record IsFirst (config : Config) (symbol : ℕ) (book : BookView) (part : OpenPart) : Type 0 where
  pub opened : IsOpen config symbol part
  pub none : part.book.journal ≡ []
  pub told : part.told ≡ length part.book.reports
  pub room : part.counts.events ≡ length book.journal
