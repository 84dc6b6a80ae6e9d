-- A listing whose first parts were put.
use Rattle.std.specs.Prelude.{◌≡◌, ℕ, List, ◌++◌, map, Option}
use Rattle.std.specs.Io.KnownBytes.{Appends}
use Rattle.venue_words.specs.declared.config.Config.{Config}
use Rattle.venue_words.specs.declared.command.Event.{Event}
use Rattle.symbol_book.specs.Book.{BookView}
use Rattle.venue_core.specs.Runs.{run_in}
use Rattle.listing.specs.Listing.{listing_from, part_text}
use Rattle.feeds_core.specs.FeedRuns.{parts_from}

abbrev pub journals_of : List BookView → List (List Event)
journals_of books = map (λ book. book.journal) books

-- the part of a symbol, from its book
abbrev pub book_text : Config → ℕ → BookView → List ℕ
book_text config symbol book = part_text config symbol book.journal (run_in config symbol book.journal).reports

-- the parts of symbols that stand one behind the other in the config, from this one on
abbrev pub parts_text : Config → ℕ → List BookView → List ℕ
parts_text config first books = listing_from config first (parts_from config first (journals_of books))

-- of a text all was put but this end
pub record PutsUpTo (whole left : List ℕ) (old new : Option (List ℕ)) : Type 0 where
  pub done : List ℕ
  pub grew : Appends old new done
  pub same : whole ≡ done ++ left
