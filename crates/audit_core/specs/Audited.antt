-- Which texts are listings of a config: those of journals, with the reports that the market's rules make of them.
use Rattle.std.specs.Prelude.{◌≡◌, ◌≤◌, ℕ, ◌+◌, true, List, [], ◌∷◌, length, slice_index, Result, Ok, Err, Some, IfSome}
use Rattle.std.specs.List.{AllByRecursion}
use Rattle.io_edge.specs.Files.{Files, file_named}
use Rattle.venue_words.specs.declared.limits.TheConstants.{MAX_CONFIG_BYTES}
use Rattle.line_reader.specs.ConfigFile.{config_file, IsMeant}
use Rattle.line_reader.specs.declared.config_file.ConfigFault.{ConfigFault}
use Rattle.venue_words.specs.declared.command.Event.{Event}
use Rattle.venue_words.specs.declared.config.Config.{Config}
use Rattle.eager_meaning.specs.Step.{Run, IsNumbered, runs}
use Rattle.listing.specs.Listing.{Part, listing}
use Rattle.listing_reader.specs.Fitting.{fits_event}
use Rattle.audit_core.specs.declared.audit.AuditRefusal.{AuditRefusal}
use Rattle.audit_core.specs.declared.audit.AuditRefusal.TheVariants.{Config as BadConfig}

-- the event limit and the tick of a symbol
abbrev pub limit_at : Config → ℕ → ℕ
limit_at config symbol = slice_index config.limits symbol

abbrev pub tick_at : Config → ℕ → ℕ
tick_at config symbol = slice_index config.ticks symbol

-- what the market's rules make of a symbol's journal
abbrev pub run_of : Config → ℕ → List Event → Run
run_of config symbol journal = runs (length config.markets) (tick_at config symbol) journal

-- a symbol's journal, and the reports that the market's rules make of it
pub record IsPart (config : Config) (symbol : ℕ) (part : Part) : Type 0 where
  pub numbered : IsNumbered part.journal
  pub fits : AllByRecursion (λ event. fits_event config event ≡ true) part.journal
  pub few : length part.journal ≤ limit_at config symbol
  pub reports : part.reports ≡ (run_of config symbol part.journal).reports

-- the parts of the symbols from one on
abbrev pub AreParts : Config → ℕ → List Part → Type 0
AreParts config symbol [] = Unit {0}
AreParts config symbol (part ∷ parts) = IsPart config symbol part × AreParts config (symbol + 1) parts

-- a text lists journals of all symbols of a config
pub record IsListing (config : Config) (text : List ℕ) : Type 0 where
  pub parts : List Part
  pub each : length parts ≡ length config.symbols
  pub made : AreParts config 0 parts
  pub spelled : text ≡ listing config parts

-- ---- files

-- a file says a config
pub record HasConfig (files : Files) (name : List ℕ) (config : Config) : Type 0 where
  pub text : List ℕ
  pub found : file_named files name ≡ Some text
  pub bytes : ℕ
  pub says : config_file MAX_CONFIG_BYTES text ≡ Ok (config, bytes)

-- a file says a config, and another is the listing of journals of it
pub record HasListing (files : Files) (config listing : List ℕ) : Type 0 where
  pub of : Config
  pub says : HasConfig files config of
  pub text : List ℕ
  pub found : file_named files listing ≡ Some text
  pub lists : IsListing of text

-- the text of a file
abbrev pub OfText : Files → List ℕ → (List ℕ → Type 0) → Type 0
OfText files name P = IfSome (file_named files name) P

-- the config's file has this fault, where the fault is none of the outside
abbrev pub IsConfigFault : Files → List ℕ → ConfigFault → Type 0
IsConfigFault files name fault = OfText files name (λ text. IsMeant (config_file MAX_CONFIG_BYTES text) fault)

-- the file says a config
abbrev pub SaysConfig : Files → List ℕ → Type 0
SaysConfig files name = (config : Config) × HasConfig files name config

-- the answer is that the config was not read
abbrev pub LacksConfig : {T : Type 0} → Result T AuditRefusal → Type 0
LacksConfig result = (fault : ConfigFault) × (result ≡ Err (BadConfig fault))
