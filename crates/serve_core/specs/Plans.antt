-- What the words of a run ask for, and what the config's file says.
use Rattle.std.specs.Prelude.{◌≡◌, ◌==◌, ◌&&◌, ◌⊎◌, ℕ, nat_le, List, [], ◌∷◌, Option, Some, None, Result, Ok, Err, if◌then◌else◌, option_and_then, option_map, slice_index, string_bytes}
use Rattle.fix_fields.specs.Forms.{number_of}
use Rattle.line_reader.specs.ConfigFile.{Answer}
use Rattle.program_words.specs.Words.{remaining}
use Rattle.script_text.specs.declared.fault.LineFault.TheVariants as fault
use Rattle.venue_words.specs.declared.config.Config.{Config}
use Rattle.serve_core.specs.declared.plan.Form.{Form}
use Rattle.serve_core.specs.declared.plan.ServePlan.{ServePlan}
use Rattle.serve_core.specs.declared.setup.SetupFault.{SetupFault}
use Rattle.serve_core.specs.declared.setup.SetupFault.TheVariants.{BadWords, BadLine, LimitLine, ReadFault, NoMemory}

-- what a run is asked for: the names of a config, of an address and perhaps of quotes, and a number of connections
pub record Plan : Type 0 where
  pub config : List ℕ
  pub address : List ℕ
  pub connections : ℕ
  pub quotes : Option (List ℕ)

abbrev pub plan : List ℕ → List ℕ → ℕ → Option (List ℕ) → Plan
plan config address connections quotes =
    record { config = config; address = address; connections = connections; quotes = quotes }

-- a number from 1 to 64
abbrev pub at_most_64 : ℕ → Option ℕ
at_most_64 count = if nat_le 1 count && nat_le count 64 then Some count else None

-- a number of connections: digits without a leading zero
abbrev pub connections_of : List ℕ → Option ℕ
connections_of word = if slice_index word 0 == 48 then None else option_and_then at_most_64 (number_of word)

-- the form of the words that remain
abbrev pub form_of : List (List ℕ) → Option Plan
form_of (config ∷ address ∷ count ∷ []) = option_map (λ n. plan config address n None) (connections_of count)
form_of (config ∷ address ∷ count ∷ quotes ∷ []) = option_map (λ n. plan config address n (Some quotes)) (connections_of count)
form_of _ = None

-- what the words ask for, where they have a form
abbrev pub plan_of : List (List ℕ) → Option Plan
plan_of words = option_and_then form_of (remaining words)

-- a plan as the program holds it
abbrev pub plan_in : ServePlan → Plan
plan_in held = plan (string_bytes held.config) (string_bytes held.address) held.connections (option_map string_bytes held.quotes)

-- the words in their places
abbrev pub form_in : Form → Plan
form_in form = plan form.config.now form.address.now form.connections (option_map (λ quotes. quotes.now) form.quotes)

-- ---- the config

-- the answer of a setup is what the config's file says, where it is none of the outside
abbrev pub MeetsSetup : Answer → Result (ServePlan × Config) SetupFault → Type 0
MeetsSetup meant (Ok setup) = (bytes : ℕ) × (meant ≡ Ok (setup.1, bytes))
MeetsSetup meant (Err BadWords) = ⊥
MeetsSetup meant (Err (BadLine line cause)) = meant ≡ Err (fault.Bad line cause)
MeetsSetup meant (Err (LimitLine line which)) = meant ≡ Err (fault.Limit line which)
MeetsSetup meant (Err ReadFault) = Unit {0}
MeetsSetup meant (Err NoMemory) = Unit {0}

-- it is refused for this, or for want of memory
abbrev pub IsRefusedFor : SetupFault → Result (ServePlan × Config) SetupFault → Type 0
IsRefusedFor fault result = (result ≡ Err fault) ⊎ (result ≡ Err NoMemory)
