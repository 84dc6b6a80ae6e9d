-- What a floor is seen as that lists what is submitted to its symbols, and takes every command.
use Rattle.std.specs.Prelude.{◌≡◌, ℕ, ◌+◌, ◌<◌, ◌==◌, List, [], ◌∷◌, None, length, map, filter, replicate, slice_index}
use Rattle.std.specs.List.{All, range_with_len}
use Rattle.venue_words.specs.declared.command.Event.{Event}
use Rattle.venue_words.specs.Floors.{FloorMark, Setup, SymbolView}
use Rattle.venue_words.specs.Journals.{event}
use Rattle.eager_meaning.specs.Interleaving.{Timed}
use Rattle.feed_work.specs.Feeds.{Asked, IsFor}
use Rattle.feeds_core.specs.declared.listing_floor.Listed.{Listed}

-- what such a floor keeps: how many members and markets there are, what was listed, and how much of each symbol
pub record Listing : Type 0 where
  pub members : ℕ
  pub markets : ℕ
  pub listed : List Listed
  pub counts : List ℕ

abbrev pub listing_of : ℕ → ℕ → List Listed → List ℕ → Listing
listing_of members markets listed counts = record { members = members; markets = markets; listed = listed; counts = counts }

-- a journal that takes whatever comes
abbrev pub no_limit : ℕ
no_limit = 4294967295

abbrev pub listing_setup : ℕ → ℕ → ℕ → Setup
listing_setup members markets symbols =
    record { members = members; markets = markets; limits = replicate symbols no_limit; ticks = [] }

abbrev pub listing_mark : Listing → FloorMark
listing_mark floor = record { setup = listing_setup floor.members floor.markets (length floor.counts); seats = [] }

-- of a symbol
abbrev pub listed_of : ℕ → List Listed → List Listed
listed_of symbol listed = filter (λ one. one.symbol == symbol) listed

-- with their moments
abbrev pub timed_of : Listed → Timed
timed_of one = (one.moment, one.command)

abbrev pub timed_at : ℕ → List Listed → List Timed
timed_at symbol listed = map timed_of (listed_of symbol listed)

-- as events, counted from a number on
abbrev pub events_from : ℕ → List Listed → List Event
events_from n [] = []
events_from n (one ∷ others) = event n one.feed one.moment one.command ∷ events_from (n + 1) others

-- every event is an own one, and none makes a report
abbrev pub view_of : List Listed → SymbolView
view_of listed =
    record {
      journal = events_from 1 listed;
      reports = [];
      mine = range_with_len 1 (length (events_from 1 listed));
      turns = None;
    }

abbrev pub listing_view : Listing → ℕ → SymbolView
listing_view floor symbol = view_of (listed_of symbol floor.listed)

-- as what a feed asks
abbrev pub asked_of : Listed → Asked
asked_of one = (one.symbol, one.moment, one.command)

-- it is counted how much of each symbol was listed, and all of it is for configured things
pub record IsListing (floor : Listing) : Type 0 where
  pub counts : (symbol : ℕ) → symbol < length floor.counts → slice_index floor.counts symbol ≡ length (listed_of symbol floor.listed)
  pub asked : All (λ one. IsFor (listing_mark floor).setup (asked_of one)) floor.listed
