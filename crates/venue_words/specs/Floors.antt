-- What a floor is made for, and what its calls leave.
use Rattle.std.specs.Prelude.{◌≡◌, ℕ, ◌+◌, ◌<◌, ◌≤◌, Bool, nat_lt, ℤ, Option, Some, None, List, [], ◌∷◌, ◌++◌, length, IfSome}
use Rattle.venue_words.specs.declared.config.Config.{Config}
use Rattle.venue_words.specs.declared.command.Command.{Command}
use Rattle.venue_words.specs.declared.command.Command.TheVariants.{Quote, New, Cancel, Replace, Status}
use Rattle.venue_words.specs.declared.command.Event.{Event}
use Rattle.venue_words.specs.declared.report.Report.{Report}
use Rattle.venue_words.specs.Journals.{event, StartsWith}

-- the configured things: how many members and markets, and each symbol's event limit and tick
pub record Setup : Type 0 where
  pub members : ℕ
  pub markets : ℕ
  pub limits : List ℕ
  pub ticks : List ℕ

-- what a config sets up
abbrev pub setup_of : Config → Setup
setup_of config =
    record { members = length config.members; markets = length config.markets; limits = config.limits; ticks = config.ticks }

-- a floor is set up for the members, the markets and the symbols of a config; its limits may be others
pub record IsSetUpFor (config : Config) (setup : Setup) : Type 0 where
  pub members : setup.members ≡ length config.members
  pub markets : setup.markets ≡ length config.markets
  pub symbols : length setup.limits ≡ length config.symbols

-- what no call of a floor changes: its configured things, and over gates, for each seat, which gate it is of and its part
pub record FloorMark : Type 0 where
  pub setup : Setup
  pub seats : List (List ℕ)

-- whether the numbers in a command are of configured things
abbrev pub is_configured : Setup → Command → Bool
is_configured setup (Quote market bid offer) = nat_lt market setup.markets
is_configured setup (New member id terms) = nat_lt member setup.members
is_configured setup (Cancel member id orig) = nat_lt member setup.members
is_configured setup (Replace member id orig terms) = nat_lt member setup.members
is_configured setup (Status member id side) = nat_lt member setup.members

-- what a floor is seen as at one symbol, beside its limit: the journal that it has seen, the journal's reports, the
-- numbers of its own calls in the journal, and perhaps how many turns it had
pub record SymbolView : Type 0 where
  pub journal : List Event
  pub reports : List Report
  pub mine : List ℕ
  pub turns : Option ℕ

-- a told number of turns rose; it is told on as it was before
abbrev pub TurnsRose : Option ℕ → Option ℕ → Type 0
TurnsRose (Some before) after = (now : ℕ) × (after ≡ Some now) × (before < now)
TurnsRose None after = after ≡ None

-- a told number of turns did not fall
abbrev pub TurnsKept : Option ℕ → Option ℕ → Type 0
TurnsKept (Some before) after = (now : ℕ) × (after ≡ Some now) × (before ≤ now)
TurnsKept None after = after ≡ None

-- the call was recorded once, behind all that had been seen, and is an own one
abbrev pub Records : SymbolView → SymbolView → ℕ → ℕ → ℤ → Command → Type 0
Records before after number feed moment command =
    (between : List Event)
    × (after.journal ≡ (before.journal ++ between) ++ event number feed moment command ∷ [])
    × (number ≡ length after.journal)
    × (after.mine ≡ before.mine ++ number ∷ [])

-- no own call was added, and all that had been seen still stands
abbrev pub AddsNone : SymbolView → SymbolView → Type 0
AddsNone before after = StartsWith after.journal before.journal × (after.mine ≡ before.mine)

-- where it is said how many steps the last event may take over the events before it, it took no more
abbrev pub CostsAtMost : (List Event → Event → Option ℕ) → List Event → Event → ℕ → ℕ → Type 0
CostsAtMost step_limit journal event before after =
    (found : List Event) × (journal ≡ found ++ event ∷ []) × IfSome (step_limit found event) (λ most. after ≤ before + most)

-- where it is said how many steps the event may take over the journal, none was taken
abbrev pub CostsNothing : (List Event → Event → Option ℕ) → List Event → Event → ℕ → ℕ → Type 0
CostsNothing step_limit found event before after = IfSome (step_limit found event) (λ most. after ≡ before)
