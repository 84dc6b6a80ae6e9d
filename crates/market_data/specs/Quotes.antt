-- The quotes of a snapshot: one for each market that it names.
use Rattle.std.specs.Prelude.{ℕ, ◌==◌, Bool, if◌then◌else◌, List, [], ◌∷◌, ◌++◌, map, filter, Option}
use Rattle.std.specs.List.{list_any}
use Rattle.venue_words.specs.declared.command.Command.{Command}
use Rattle.venue_words.specs.declared.command.Command.TheVariants.{Quote}
use Rattle.venue_words.specs.Best.{greatest, least}
use Rattle.market_data.specs.declared.entries.EntryQuote.{EntryQuote}

-- whether a market was named
abbrev pub is_named : List ℕ → ℕ → Bool
is_named markets market = list_any (λ other. other == market) markets

-- those of these markets that were not named before, each where it is named first
abbrev pub first_named : List ℕ → List ℕ → List ℕ
first_named before [] = []
first_named before (market ∷ markets) =
    if is_named before market then first_named before markets
    else market ∷ first_named (before ++ market ∷ []) markets

-- these markets and one more, unless that was named before
abbrev pub with_named : List ℕ → ℕ → List ℕ
with_named markets market = if is_named markets market then markets else markets ++ market ∷ []

abbrev pub markets_in : List EntryQuote → List ℕ
markets_in quotes = map (λ quote. quote.market) quotes

-- what is said of a market
abbrev pub said_of : ℕ → List EntryQuote → List EntryQuote
said_of market quotes = filter (λ quote. quote.market == market) quotes

abbrev pub bids_of : ℕ → List EntryQuote → List (Option ℕ)
bids_of market quotes = map (λ quote. quote.bid) (said_of market quotes)

abbrev pub offers_of : ℕ → List EntryQuote → List (Option ℕ)
offers_of market quotes = map (λ quote. quote.offer) (said_of market quotes)

-- the quote of a market: its greatest bid and its least offer
abbrev pub market_quote : List EntryQuote → ℕ → Command
market_quote quotes market = Quote market (greatest (bids_of market quotes)) (least (offers_of market quotes))

-- a quote for each market, in the order in which they are named first
abbrev pub quotes_of : List EntryQuote → List Command
quotes_of quotes = map (market_quote quotes) (first_named [] (markets_in quotes))
