use Rattle.venue_core.specs.ConfigVenueLaws.{new_books_show_none}
use Rattle.replay_core.proofs.Settings.{plain_venue, weaker}
use Rattle.replay_core.proofs.venue.PlainVenueBookPlainFloor.open.Goals as goal

pub returns-clause-plain : goal.returns-clause-plain
returns-clause-plain c = weaker c.plain.result _ _ (λ venue of_config. plain_venue c.args.config.now venue c.requires of_config)
    c.plain.ensures.of_config

pub returns-clause-empty : goal.returns-clause-empty
returns-clause-empty c = weaker c.plain.result _ _ (λ venue books symbol. new_books_show_none _ venue symbol books)
    c.plain.ensures.books
