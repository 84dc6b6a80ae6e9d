-- The listing of a venue's books.
use Rattle.std.specs.Prelude.{◌≡◌, ◌⊎◌, ℕ, List, map, Option}
use Rattle.std.specs.List.{AllZip}
use Rattle.std.specs.Io.KnownBytes.{Appends}
use Rattle.io_edge.specs.Grows.{AppendsPrefix}
use Rattle.venue_words.specs.Floors.{setup_of}
use Rattle.venue_words.specs.declared.config.Config.{Config}
use Rattle.turn_gate.specs.Rule.{whole}
use Rattle.turn_gate.specs.Seats.{SeatState}
use Rattle.symbol_book.specs.Book.{BookView}
use Rattle.symbol_book.specs.Setting.{book_setting, reports_at}
use Rattle.venue_core.specs.Closing.{IsBookOf}
use Rattle.venue_core.specs.Venues.{VenueId, setup_in}
use Rattle.serve_core.specs.declared.status.ServeStatus.{ServeStatus}
use Rattle.serve_core.specs.declared.status.ServeStatus.TheVariants.{Done}
use Rattle.venue_server.specs.Seating.{HasSeats}
use Rattle.listing.specs.Listing.{Part, listing}

-- the journal of a book, and the reports that the market's rules make of it
abbrev pub part_of : BookView → Part
part_of book = record { journal = book.journal; reports = reports_at (book_setting book) book.journal }

-- the listing of books, one for each symbol
abbrev pub listing_of : Config → List BookView → List ℕ
listing_of config books = listing config (map part_of books)

-- the books are those of the gates of seats that have all parts
abbrev pub AreBooksOf : List SeatState → List BookView → Type 0
AreBooksOf seats books = AllZip (IsBookOf (λ book. book.journal) (λ book. book.limit) book_setting) seats books

-- the listing of the books of these seats' gates
pub record ListsBooks (config : Config) (seats : List SeatState) (grew_by : List ℕ → Type 0) : Type 0 where
  pub books : List BookView
  pub of_seats : AreBooksOf seats books
  pub grew : grew_by (listing_of config books)

-- On `Done` the told bytes grew by the listing of the seats' books. On any other status they grew by a beginning of it, or by
-- nothing where the venue was not closed.
abbrev pub ListsSeats : Config → List SeatState → ServeStatus → Option (List ℕ) → Option (List ℕ) → Type 0
ListsSeats config seats Done told told' = ListsBooks config seats (Appends told told')
ListsSeats config seats status told told' = (told' ≡ told) ⊎ ListsBooks config seats (AppendsPrefix told told')

-- the listing of a venue of the config that was closed with all parts of its seats
pub record ListsVenue (config : Config) (grew_by : List ℕ → Type 0) : Type 0 where
  pub venue : VenueId
  pub setup : setup_in venue ≡ setup_of config
  pub seats : List SeatState
  pub has : HasSeats venue whole seats
  pub lists : ListsBooks config seats grew_by

-- the same of some venue of the config
abbrev pub Lists : Config → ServeStatus → Option (List ℕ) → Option (List ℕ) → Type 0
Lists config Done told told' = ListsVenue config (Appends told told')
Lists config status told told' = (told' ≡ told) ⊎ ListsVenue config (AppendsPrefix told told')
