-- The gates have the settings of the books, and so of the config.
use Rattle.std.proofs.Common.{◌≡◌, List, map, length, ◌∙◌}
use Rattle.venue_words.specs.Floors.{setup_of}
use Rattle.symbol_book.specs.Setting.{book_setting}
use Rattle.turn_gate.specs.Seats.{GateId, SeatState}
use Rattle.venue_core.specs.ConfigVenues.{IsVenueOf}
use Rattle.venue_core.specs.ConfigVenueLaws.{seats_of_config}
use Rattle.venue_core.specs.Marks.{mark_of}
use Rattle.venue_core.specs.Venues.{VenueId, AreSeatsOf, setup_in}
use Rattle.venue_core.proofs.Answered.{ok_both}
use Rattle.venue_core.proofs.NewBooks.{settings_of}
use Rattle.venue_core.proofs.books.make.Goals as goal

pub returns-clause-of_config : goal.returns-clause-of_config
returns-clause-of_config c =
    let config = c.args.config.now in
    let made = c.in_ok-books.ensures in
    let settings = settings_of (length config.markets) c.in_ok-books.books.items config.ticks made.ticks made.books in
    ok_both c.from_books.result (λ (made : VenueId × List SeatState). setup_in made.0 ≡ setup_of config)
    (λ (made : VenueId × List SeatState). map (λ (gate : GateId). gate.setting) made.0.gates ≡ map book_setting c.in_ok-books.books.items)
    (λ (made : VenueId × List SeatState). (seats : List SeatState) → AreSeatsOf made.0 seats → IsVenueOf config (mark_of made.0 seats))
    (λ made setup so. λ seats are. seats_of_config config made.0 seats c.requires setup (so ∙ settings) are)
    c.from_books.ensures.setup c.from_books.ensures.settings
