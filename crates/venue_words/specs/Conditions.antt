-- What every call needs of the quotes, keys, rows, commands and configs that it is handed.
use Rattle.std.specs.Prelude.{◌≡◌, ◌≤◌, ◌⊎◌, ℕ, pos, negsuc, ◌≤ℤ◌, Bool, true, ◌&&◌, nat_le, List, length, Option, Some, None}
use Rattle.std.specs.List.{AllByRecursion, IsDistinct}
use Rattle.std.specs.Str.{bytes_eq}
use Rattle.venue_words.specs.declared.price.TheConstants.{PRICE_END}
use Rattle.venue_words.specs.declared.limits.TheConstants.{MAX_MEMBERS, MAX_MARKETS, MAX_SYMBOLS, MAX_NAME_BYTES, MAX_EVENTS, MAX_ID_BYTES, MAX_CENTS}
use Rattle.venue_words.specs.declared.row.Key.{Key}
use Rattle.venue_words.specs.declared.row.Row.{Row}
use Rattle.venue_words.specs.declared.config.Config.{Config}
use Rattle.venue_words.specs.declared.command.Command.{Command}
use Rattle.venue_words.specs.declared.command.Command.TheVariants.{Quote, New, Cancel, Replace, Status}

-- ---- keys and rows

-- the units of a tick of 0.01 or 0.05
abbrev pub IsTick : ℕ → Type 0
IsTick units = (units ≡ 2) ⊎ (units ≡ 10)

-- the offset and the tick of a key
pub record IsKey (key : Key) : Type 0 where
  pub least : negsuc 199 ≤ℤ key.offset
  pub most : key.offset ≤ℤ pos 200
  pub grid : IsTick key.grid

-- the key and the cap of a row
pub record IsRow (row : Row) : Type 0 where
  pub key : IsKey row.key
  pub least : 1 ≤ row.cap
  pub most : row.cap ≤ PRICE_END

-- ---- commands

-- whether a price of a quote is none, or one
abbrev pub fits_quote : Option ℕ → Bool
fits_quote None = true
fits_quote (Some cents) = nat_le 1 cents && nat_le cents MAX_CENTS

-- whether an identifier is not too long
abbrev pub fits_id : List ℕ → Bool
fits_id id = nat_le (length id) MAX_ID_BYTES

-- whether a command keeps to the limits on prices and identifiers
abbrev pub fits_limits : Command → Bool
fits_limits (Quote market bid offer) = fits_quote bid && fits_quote offer
fits_limits (New member id terms) = fits_id id
fits_limits (Cancel member id orig) = fits_id id && fits_id orig
fits_limits (Replace member id orig terms) = fits_id id && fits_id orig
fits_limits (Status member id side) = fits_id id

-- ---- configs

-- names that are not empty and not too long, no two of them the same
pub record AreNames (names : List (List ℕ)) : Type 0 where
  pub lengths : AllByRecursion (λ name. (1 ≤ length name) × (length name ≤ MAX_NAME_BYTES)) names
  pub distinct : IsDistinct bytes_eq names

-- a number of events that a book may hold
abbrev pub IsEventLimit : ℕ → Type 0
IsEventLimit limit = (1 ≤ limit) × (limit ≤ MAX_EVENTS)

-- a config within the limits of the venue, with one event limit and one tick for each symbol
pub record IsConfig (config : Config) : Type 0 where
  pub members : AreNames config.members
  pub markets : AreNames config.markets
  pub symbols : AreNames config.symbols
  pub few_members : length config.members ≤ MAX_MEMBERS
  pub few_markets : length config.markets ≤ MAX_MARKETS
  pub few_symbols : length config.symbols ≤ MAX_SYMBOLS
  pub limit_each : length config.limits ≡ length config.symbols
  pub limits : AllByRecursion IsEventLimit config.limits
  pub tick_each : length config.ticks ≡ length config.symbols
  pub ticks : AllByRecursion IsTick config.ticks
