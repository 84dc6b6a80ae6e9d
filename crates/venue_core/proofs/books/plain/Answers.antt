-- The books have the settings of the config.
use Rattle.std.proofs.Common.{◌≡◌, map, length, sym, ap, subst, ◌∙◌}
use Rattle.std.specs.List.{All}
use Rattle.venue_words.specs.Floors.{setup_of}
use Rattle.symbol_book.specs.Book.{BookView}
use Rattle.venue_core.specs.Books.{IsNewBook}
use Rattle.venue_core.specs.ConfigVenues.{IsVenueOf, plain_book_mark}
use Rattle.venue_core.specs.ConfigVenueLaws.{plain_of_config}
use Rattle.venue_core.specs.Venues.{PlainState, plain_setup}
use Rattle.venue_core.proofs.Answered.{ok_both}
use Rattle.venue_core.proofs.books.plain.Goals as goal

pub returns-clause-of_config : goal.returns-clause-of_config
returns-clause-of_config c =
    let config = c.args.config.now in
    let made = c.in_ok-books.ensures in
    ok_both c.from_books.result (λ (venue : PlainState BookView). plain_setup (λ (book : BookView). book.limit) venue ≡ setup_of config)
    (λ (venue : PlainState BookView). venue.books ≡ c.in_ok-books.books.items)
    (λ (venue : PlainState BookView). IsVenueOf config (plain_book_mark venue))
    (λ venue setup same. plain_of_config config venue c.requires setup (ap (map (λ (book : BookView). book.tick)) same ∙ made.ticks)
    (subst (All (IsNewBook (length config.markets))) (sym same) made.books))
    c.from_books.ensures.setup c.from_books.ensures.books
