-- The markets' quotes in a symbol, event by event.
use Rattle.std.specs.Prelude.{◌≡◌, ℕ, List, slice_set}
use Rattle.venue_words.specs.Conditions.{IsConfig}
use Rattle.venue_words.specs.declared.command.Event.{Event}
use Rattle.venue_words.specs.declared.config.Config.{Config}
use Rattle.venue_words.specs.declared.command.Command.{Command}
use Rattle.venue_words.specs.declared.command.Command.TheVariants.{Quote, New, Cancel, Replace, Status}
use Rattle.venue_words.specs.declared.price.Best.{Best}
use Rattle.audit_core.specs.Audited.{run_of}

-- the quotes after a command
abbrev pub markets_after : List Best → Command → List Best
markets_after markets (Quote market bid offer) = slice_set markets market (record { bid = bid; offer = offer })
markets_after markets (New member id terms) = markets
markets_after markets (Cancel member id orig) = markets
markets_after markets (Replace member id orig terms) = markets
markets_after markets (Status member id side) = markets

-- the quotes behind a symbol's journal, of a config within the limits of the venue
pub record HasQuotes (config : Config) (symbol : ℕ) (journal : List Event) (markets : List Best) : Type 0 where
  pub is : IsConfig config
  pub quotes : markets ≡ (run_of config symbol journal).state.markets
