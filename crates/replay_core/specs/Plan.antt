-- What the words of a run ask for.
use Rattle.std.specs.Prelude.{ℕ, ◌≤◌, ◌==◌, ◌&&◌, nat_le, nat_lt, if◌then◌else◌, List, [], ◌∷◌, length, Option, Some, None, option_and_then, codes, slice_index}
use Rattle.std.specs.Str.{bytes_eq}
use Rattle.fix_fields.specs.Forms.{number_of}
use Rattle.program_words.specs.Words.{remaining}
use Rattle.replay_core.specs.declared.plan.Plan as declared
use Rattle.replay_core.specs.declared.plan.Plan.TheVariants as plan

-- a script of a name, or the load script of so many orders and quotes
pub data Plan : Type 0 where
  Script : (name : List ℕ) → Plan
  Load : (orders quotes : ℕ) → Plan

-- the most orders, and the most quotes, of a load run
abbrev pub most_load : ℕ
most_load = 200000

abbrev pub within_load : Option ℕ → Option ℕ
within_load None = None
within_load (Some count) = if nat_le count most_load then Some count else None

-- a whole number up to that, without a leading zero
unfoldable pub load_count : List ℕ → Option ℕ
load_count word = if nat_lt 1 (length word) && (slice_index word 0 == 48) then None else within_load (number_of word)

abbrev pub load_of : Option ℕ → Option ℕ → Option Plan
load_of (Some orders) (Some quotes) = Some (Load orders quotes)
load_of _ _ = None

unfoldable pub keyed_plan : List ℕ → List ℕ → List ℕ → Option Plan
keyed_plan key orders quotes =
    if bytes_eq key (codes "load") then load_of (load_count orders) (load_count quotes) else None

-- the forms of the words that remain: a name, or `load` and two counts
abbrev pub form_of : List (List ℕ) → Option Plan
form_of (name ∷ []) = Some (Script name)
form_of (key ∷ orders ∷ quotes ∷ []) = keyed_plan key orders quotes
form_of _ = None

-- what the words ask for, where they have a form
abbrev pub plan_of : List (List ℕ) → Option Plan
plan_of words = option_and_then form_of (remaining words)

-- ---- as the program holds it

-- what a plan stands for
abbrev pub plan_in : declared.Plan → Plan
plan_in (plan.Script name) = Script name.now
plan_in (plan.Load orders quotes) = Load orders quotes

-- a load is not larger than it may be
abbrev pub IsWithinLoad : declared.Plan → Type 0
IsWithinLoad (plan.Script name) = Unit {0}
IsWithinLoad (plan.Load orders quotes) = (orders ≤ most_load) × (quotes ≤ most_load)
