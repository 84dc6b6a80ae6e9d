-- The commands of feeds.
use Rattle.std.specs.Prelude.{◌≡◌, ℕ, ◌<◌, ◌==◌, ℤ, true, List, length, map, filter}
use Rattle.venue_words.specs.Conditions.{fits_limits}
use Rattle.venue_words.specs.Floors.{Setup, is_configured}
use Rattle.venue_words.specs.declared.command.Command.{Command}
use Rattle.eager_meaning.specs.Interleaving.{Timed}

-- a command of a feed: the symbol that it is for, its moment, and what is asked
abbrev pub Asked : Type 0
Asked = ℕ × ℤ × Command

-- those for one symbol, with their moments
abbrev pub commands_at : ℕ → List Asked → List Timed
commands_at symbol commands =
    map (λ asked. (asked.1, asked.2)) (filter (λ asked. asked.0 == symbol) commands)

-- a command for a symbol that is set up, of configured things, and within the limits on prices and identifiers
pub record IsFor (setup : Setup) (asked : Asked) : Type 0 where
  pub symbol : asked.0 < length setup.limits
  pub configured : is_configured setup asked.2 ≡ true
  pub limits : fits_limits asked.2 ≡ true
