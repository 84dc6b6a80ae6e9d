-- What the words of a run name.
use Rattle.std.specs.Prelude.{ℕ, if◌then◌else◌, List, [], ◌∷◌, Option, Some, None, option_and_then}
use Rattle.program_words.specs.Words.{remaining}
use Rattle.script_text.specs.Words.{is_name}
use Rattle.market_data.specs.declared.plan.Plan as declared

-- the file of the config, the source, and the file of the bytes that it sent
pub record Named : Type 0 where
  pub config : List ℕ
  pub source : List ℕ
  pub input : List ℕ

abbrev pub named_plan : List ℕ → List ℕ → List ℕ → Option Named
named_plan config source input =
    if is_name source then Some (record { config = config; source = source; input = input }) else None

-- the form of the words that remain: three, of which the second has the form of a name
abbrev pub form_of : List (List ℕ) → Option Named
form_of (config ∷ source ∷ input ∷ []) = named_plan config source input
form_of _ = None

-- what the words name, where they have the form
abbrev pub plan_of : List (List ℕ) → Option Named
plan_of words = option_and_then form_of (remaining words)

-- a plan as the program holds it
abbrev pub plan_in : declared.Plan → Named
plan_in plan = record { config = plan.config.now; source = plan.source.now; input = plan.input.now }
