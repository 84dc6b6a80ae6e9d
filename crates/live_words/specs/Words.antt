-- What operators write, and what it does.
use Rattle.std.specs.Prelude.{◌≡◌, ℕ, Bool, false, ◌||◌, is_some, List, [], ◌++◌, Option, None, Some, Ok, map, codes, slice_get, unwrap_or}
use Rattle.venue_words.specs.declared.config.Config.{Config}
use Rattle.venue_words.specs.declared.command.Command.TheVariants.{Quote}
use Rattle.quote_intake.specs.Quote.{quote_of}
use Rattle.live_words.specs.declared.words.Quoted.{Quoted}
use Rattle.live_words.specs.Lines.{empty_line}

-- `Q ` and a quote of a symbol and a market of the config, which has a price or none
pub record IsQuoteLine (line : List ℕ) (config : Config) (quoted : Quoted) : Type 0 where
  pub words : List ℕ
  pub spells : line ≡ codes "Q " ++ words
  pub bid : Option ℕ
  pub offer : Option ℕ
  pub quote : quote_of words config ≡ Ok (quoted.symbol, Quote quoted.market bid offer)
  pub priced : quoted.priced ≡ is_some bid || is_some offer

-- whether a symbol is halted
abbrev pub is_halted : List Bool → ℕ → Bool
is_halted halted symbol = unwrap_or (slice_get halted symbol) false

abbrev pub lines_of : Option (List ℕ) → List (List ℕ) → List (List ℕ)
lines_of None markets = []
lines_of (Some symbol) markets = map (empty_line symbol) markets

-- for each market the line of a quote that leaves it without prices of a symbol
abbrev pub empty_lines : Config → ℕ → List (List ℕ)
empty_lines config symbol = lines_of (slice_get config.symbols symbol) config.markets
