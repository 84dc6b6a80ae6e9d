-- What a config sets up.
use Rattle.std.proofs.Common.{refl}
use Rattle.venue_words.specs.Conditions.{IsConfig}
use Rattle.venue_words.specs.Floors.{IsSetUpFor, setup_of}
use Rattle.venue_words.specs.declared.config.Config.{Config}

-- a floor that is set up with a config is set up for it
pub sets_up : (config : Config) → IsConfig config → IsSetUpFor config (setup_of config)
sets_up config is = record { members = refl; markets = refl; symbols = is.limit_each }
