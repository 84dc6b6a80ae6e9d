-- The end of a run over files that are there.
use Rattle.std.specs.Prelude.{◌≡◌, ◌⊎◌, ℕ, List, Some, Ok}
use Rattle.io_edge.specs.Files.{Files, file_named}
use Rattle.line_reader.specs.ConfigFile.{config_file}
use Rattle.venue_words.specs.declared.config.Config.{Config}
use Rattle.venue_words.specs.declared.limits.TheConstants.{MAX_CONFIG_BYTES}
use Rattle.market_data.specs.declared.status.MarketStatus.{MarketStatus}
use Rattle.market_data.specs.declared.status.MarketStatus.TheVariants.{NoMemory}
use Rattle.market_data.specs.Outcomes.{status_of}
use Rattle.market_data.specs.Plan.{Named}

-- where the config's text says a config and the input is there, the status is the one to which the input's bytes lead, or memory was
-- wanted
abbrev pub IsWhole : Files → Named → MarketStatus → Type 0
IsWhole files plan status =
    (text bytes : List ℕ) (config : Config) (size : ℕ) → file_named files plan.config ≡ Some text → file_named files plan.input ≡ Some bytes
    → config_file MAX_CONFIG_BYTES text ≡ Ok (config, size)
    → (status ≡ status_of config plan.source bytes) ⊎ (status ≡ NoMemory)
