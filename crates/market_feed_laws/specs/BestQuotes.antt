-- The quotes of a snapshot, by all that it says.
use Rattle.std.specs.Prelude.{◌≡◌, ℕ, List, Option}
use Rattle.venue_words.specs.Best.{IsGreatest, IsLeast}
use Rattle.venue_words.specs.declared.command.Command.{Command}
use Rattle.venue_words.specs.declared.command.Command.TheVariants.{Quote}
use Rattle.market_data.specs.declared.entries.EntryQuote.{EntryQuote}
use Rattle.market_data.specs.Quotes.{bids_of, offers_of, market_quote}

-- a quote of a market, with the greatest bid and the least offer that is said of it
pub record IsBestQuote (quotes : List EntryQuote) (market : ℕ) (command : Command) : Type 0 where
  pub bid : Option ℕ
  pub offer : Option ℕ
  pub command_is : command ≡ Quote market bid offer
  pub greatest : IsGreatest (bids_of market quotes) bid
  pub least : IsLeast (offers_of market quotes) offer

abbrev pub QuotesAreBest : Type 0
QuotesAreBest = (quotes : List EntryQuote) (market : ℕ) → IsBestQuote quotes market (market_quote quotes market)
