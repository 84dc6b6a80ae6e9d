-- What the words of a run ask for.
use Rattle.std.specs.Prelude.{◌≡◌, ◌<◌, ◌⊎◌, ◌++◌, ◌∷◌, ℕ, nat_le, List, Option, Some, None, Result, Ok, Err, ⊤, if◌then◌else◌, codes, length, take, option_and_then, option_map, string_bytes}
use Rattle.line_reader.specs.ConfigFile.{Answer}
use Rattle.program_words.specs.Words.{remaining, texts}
use Rattle.script_text.specs.declared.fault.LineFault.TheVariants as fault
use Rattle.venue_words.specs.Conditions.{IsConfig}
use Rattle.venue_words.specs.declared.config.Config.{Config}
use Rattle.drop_copy.specs.Desks.{DropView, fresh_drop}
use Rattle.drop_copy.specs.Plans.{members_of}
use Rattle.drop_copy.specs.declared.plan.DropPlan.{DropPlan}
use Rattle.serve_core.specs.Plans.{Plan, form_of}
use Rattle.serve_core.specs.declared.setup.SetupFault.{SetupFault}
use Rattle.serve_core.specs.declared.setup.SetupFault.TheVariants.{BadWords, BadLine, LimitLine, ReadFault, NoMemory}
use Rattle.venue_server.specs.declared.asking.Copies.{Copies}
use Rattle.venue_server.specs.declared.asking.Setup.{Setup}
use Rattle.venue_server.specs.declared.asking.Split.{Split}

-- ---- the venue

-- the words that ask for the venue: the first four where there are at least seven, with a drop session behind them, and else all
abbrev pub venue_part : List (List ℕ) → List (List ℕ)
venue_part words = if nat_le 7 (length words) then take 4 words else words

-- the plan that words ask for, where those of them that remain have a form
unfoldable pub asked_plan : List (List ℕ) → Option Plan
asked_plan words = option_and_then (λ words. form_of (venue_part words)) (remaining words)

-- ---- the drop session

-- the words of a drop session's plan: its address, its name, and the names of its listed members
abbrev pub plan_words : DropPlan → List (List ℕ)
plan_words plan = string_bytes plan.address ∷ (string_bytes plan.name ∷ texts plan.members.items)

-- the first four words ask for the venue, behind a `--`, and all behind them for the drop session, which lists somebody
pub record IsSplit (words : List (List ℕ)) (split : Split) : Type 0 where
  pub venue : List (List ℕ)
  pub kept : texts split.venue.items ≡ codes "--" ∷ venue
  pub four : length venue ≡ 4
  pub all : words ≡ venue ++ plan_words split.plan
  pub somebody : 0 < length split.plan.members.items

-- Words that remain ask for a drop session exactly where there are at least seven.
abbrev pub Splits : Option (List (List ℕ)) → Option Split → Type 0
Splits None split = ⊥
Splits (Some words) (Some split) = IsSplit words split
Splits (Some words) None = length words < 7

-- the desk of a session of this name before its first connection, that lists the members of these names
abbrev pub IsDeskOf : Config → List ℕ → List (List ℕ) → DropView → Type 0
IsDeskOf config name members desk = Some desk ≡ option_map (fresh_drop name) (members_of config.members name members)

-- no session of this name may list the members of these names
abbrev pub HasNoDesk : Config → List ℕ → List (List ℕ) → Type 0
HasNoDesk config name members = members_of config.members name members ≡ None

-- the drop session of a plan, where there is a plan
abbrev pub ArePlanned : Config → Option DropPlan → Option Copies → Type 0
ArePlanned config None None = ⊤
ArePlanned config None (Some copies) = ⊥
ArePlanned config (Some plan) None = ⊥
ArePlanned config (Some plan) (Some copies) =
    (copies.address ≡ plan.address) × IsDeskOf config (string_bytes plan.name) (texts plan.members.items) copies.desk

-- there is a plan, and it is not lawful for the config
abbrev pub IsUnlawful : Config → Option DropPlan → Type 0
IsUnlawful config None = ⊥
IsUnlawful config (Some plan) = HasNoDesk config (string_bytes plan.name) (texts plan.members.items)

-- the fifth of the words is the session's address, the sixth is its name, and all behind that are its listed members
pub record AsksForCopies (config : Config) (words : List (List ℕ)) (copies : Copies) : Type 0 where
  pub venue : List (List ℕ)
  pub name : List ℕ
  pub members : List (List ℕ)
  pub four : length venue ≡ 4
  pub all : words ≡ venue ++ (string_bytes copies.address ∷ (name ∷ members))
  pub somebody : 0 < length members
  pub desk : IsDeskOf config name members copies.desk

-- Words that remain ask for a drop session exactly where there are at least seven.
abbrev pub AsksFor : Config → Option (List (List ℕ)) → Option Copies → Type 0
AsksFor config None copies = ⊥
AsksFor config (Some words) (Some copies) = AsksForCopies config words copies
AsksFor config (Some words) None = length words < 7

-- words ask for a session as above, and it may not list its members
pub record AsksForNoDesk (config : Config) (words : List (List ℕ)) : Type 0 where
  pub venue : List (List ℕ)
  pub address : List ℕ
  pub name : List ℕ
  pub members : List (List ℕ)
  pub four : length venue ≡ 4
  pub all : words ≡ venue ++ (address ∷ (name ∷ members))
  pub somebody : 0 < length members
  pub nobody : HasNoDesk config name members

-- words that remain ask for a drop session that is not lawful for the config
abbrev pub AsksUnlawfully : Config → Option (List (List ℕ)) → Type 0
AsksUnlawfully config None = ⊥
AsksUnlawfully config (Some words) = AsksForNoDesk config words

-- ---- refusals

-- Words are bad words: they ask for no venue, or for a drop session that is not lawful for a config.
abbrev pub AreBadWords : List (List ℕ) → Type 0
AreBadWords words = (asked_plan words ≡ None) ⊎ ((config : Config) × IsConfig config × AsksUnlawfully config (remaining words))

-- it is refused for this, or for want of memory
abbrev pub IsRefusedAs : SetupFault → Result Setup SetupFault → Type 0
IsRefusedAs fault result = (result ≡ Err fault) ⊎ (result ≡ Err NoMemory)

-- What came of it is what the config's file says, where it is none of the outside: the file's config, or its first line that is
-- refused. Words are bad only where the file's config makes what they ask for unlawful.
abbrev pub MeetsFile : (Config → Type 0) → Answer → Result Setup SetupFault → Type 0
MeetsFile Unlawful meant (Ok setup) = (bytes : ℕ) × (meant ≡ Ok (setup.config, bytes))
MeetsFile Unlawful meant (Err BadWords) = (config : Config) × (bytes : ℕ) × (meant ≡ Ok (config, bytes)) × Unlawful config
MeetsFile Unlawful meant (Err (BadLine line cause)) = meant ≡ Err (fault.Bad line cause)
MeetsFile Unlawful meant (Err (LimitLine line which)) = meant ≡ Err (fault.Limit line which)
MeetsFile Unlawful meant (Err ReadFault) = ⊤
MeetsFile Unlawful meant (Err NoMemory) = ⊤
