-- What a run comes to, by its words and the files of its shelf.
use Rattle.std.specs.Prelude.{◌≡◌, ◌⊎◌, ℕ, List, Option, Some, None, Ok, Err, IfSome}
use Rattle.io_edge.specs.Files.{Files, file_named}
use Rattle.venue_words.specs.declared.config.Config.{Config}
use Rattle.venue_words.specs.declared.limits.TheConstants.{MAX_CONFIG_BYTES}
use Rattle.line_reader.specs.ConfigFile.{Answer, config_file, fault_of}
use Rattle.market_data.specs.declared.status.MarketStatus.{MarketStatus}
use Rattle.market_data.specs.declared.status.MarketStatus.TheVariants.{BadWords, ReadFault, NoMemory}
use Rattle.market_data.specs.Outcomes.{Ran}
use Rattle.market_data.specs.Plan.{Named, plan_of}
use Rattle.market_data.specs.Statuses.{refused}

-- a file was not read, or memory was wanted before that: nothing was put
abbrev pub Unread : Option (List ℕ) → Option (List ℕ) → MarketStatus → Type 0
Unread old new status = ((status ≡ ReadFault) ⊎ (status ≡ NoMemory)) × (new ≡ old)

-- an input that is there comes to what its bytes make, unless it was not begun; one that is not there is not read
abbrev pub RunsInput : Config → List ℕ → Option (List ℕ) → Option (List ℕ) → Option (List ℕ) → Option (List ℕ) → MarketStatus → Type 0
RunsInput config source None old new left status = Unread old new status
RunsInput config source (Some bytes) old new left status =
    Ran config source bytes old new left status ⊎ Unread old new status

-- a config that is refused ends the run by its first fault, and nothing is put
abbrev pub RunsConfig : Answer → List ℕ → Option (List ℕ) → Option (List ℕ) → Option (List ℕ) → Option (List ℕ) → MarketStatus → Type 0
RunsConfig (Err fault) source input old new left status =
    ((status ≡ refused (fault_of fault)) × (new ≡ old)) ⊎ Unread old new status
RunsConfig (Ok config) source input old new left status = RunsInput config.0 source input old new left status

-- a config that is there is read
abbrev pub RunsText : Option (List ℕ) → List ℕ → Option (List ℕ) → Option (List ℕ) → Option (List ℕ) → Option (List ℕ) → MarketStatus → Type 0
RunsText None source input old new left status = Unread old new status
RunsText (Some text) source input old new left status =
    RunsConfig (config_file MAX_CONFIG_BYTES text) source input old new left status

-- what the files say of a run that the words ask for
abbrev pub Runs : Files → Named → Option (List ℕ) → Option (List ℕ) → Option (List ℕ) → MarketStatus → Type 0
Runs files plan old new left status =
    RunsText (file_named files plan.config) plan.source (file_named files plan.input) old new left status

-- the status with which a run ends, and what was put by then
pub record Ends (told : Option Files) (words : List (List ℕ)) (old new left : Option (List ℕ)) (status : MarketStatus) : Type 0 where
  -- what the config and the input say, where the shelf tells its files
  pub runs : IfSome told (λ files. IfSome (plan_of words) (λ plan. Runs files plan old new left status))
  -- words of another form: nothing is put
  pub bad_words : status ≡ BadWords → plan_of words ≡ None
  pub other_words : plan_of words ≡ None → ((status ≡ BadWords) ⊎ (status ≡ NoMemory)) × (new ≡ old)
