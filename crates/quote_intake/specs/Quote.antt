-- The quote that a line writes.
use Rattle.std.specs.Prelude.{ℕ, List, [], ◌∷◌, Option, Some, None, Result, Ok, Err, position}
use Rattle.std.specs.Str.{bytes_eq}
use Rattle.venue_words.specs.declared.config.Config.{Config}
use Rattle.venue_words.specs.declared.command.Command.{Command}
use Rattle.venue_words.specs.declared.command.Command.TheVariants.{Quote}
use Rattle.quote_intake.specs.declared.quotes.QuoteFault.{QuoteFault}
use Rattle.quote_intake.specs.declared.quotes.QuoteFault.TheVariants.{BadWord, UnknownName, BadPrice}
use Rattle.quote_intake.specs.Price.{price_of}
use Rattle.quote_intake.specs.Words.{words_of}

-- the number of a configured name
abbrev pub number_in : List (List ℕ) → List ℕ → Option ℕ
number_in names name = position (λ other. bytes_eq other name) names

-- a symbol and its quote, or the first fault: unknown names stand before bad prices
abbrev pub quote_from : Option ℕ → Option ℕ → Option (Option ℕ) → Option (Option ℕ) → Result (ℕ × Command) QuoteFault
quote_from None market bid offer = Err UnknownName
quote_from (Some symbol) None bid offer = Err UnknownName
quote_from (Some symbol) (Some market) None offer = Err BadPrice
quote_from (Some symbol) (Some market) (Some bid) None = Err BadPrice
quote_from (Some symbol) (Some market) (Some bid) (Some offer) = Ok (symbol, Quote market bid offer)

-- the same from the words: symbol, market, bid and offer
unfoldable pub quote_in : List (List ℕ) → Config → Result (ℕ × Command) QuoteFault
quote_in (symbol ∷ market ∷ bid ∷ offer ∷ []) config =
    quote_from (number_in config.symbols symbol) (number_in config.markets market) (price_of bid) (price_of offer)
quote_in _ config = Err BadWord

-- what stands behind `Q ` in a line
abbrev pub quote_of : List ℕ → Config → Result (ℕ × Command) QuoteFault
quote_of text config = quote_in (words_of text) config
