-- Who is named in a feed, and where first.
use Rattle.std.specs.Prelude.{◌≡◌, ℕ, ◌==◌, ◌||◌, Bool, List, Option, Some, None, if◌then◌else◌, find}
use Rattle.std.specs.List.{list_any}
use Rattle.script_text.specs.declared.fault.LineFault.{LineFault}
use Rattle.script_text.specs.declared.fault.LineFault.TheVariants.{Bad}
use Rattle.script_text.specs.declared.fault.LineCause.TheVariants.{SharedMember}
use Rattle.feeds_core.specs.FeedLines.{or_else, is_member, is_taken}
use Rattle.feeds_core.specs.declared.naming.Naming.{Naming}

-- whether a member is among those named
abbrev pub has_name : List Naming → ℕ → Bool
has_name named member = list_any (λ one. one.member == member) named

-- the first naming of a member that is taken
abbrev pub first_shared : (ℕ → Bool) → List Naming → Option Naming
first_shared taken named = find (λ one. taken one.member) named

-- the line with a naming is refused
abbrev pub shared_fault : Option Naming → Option LineFault
shared_fault None = None
shared_fault (Some one) = Some (Bad one.line SharedMember)

-- the first refused line, by who is named and by the first line that is refused on its own account
abbrev pub refused_by : (ℕ → Bool) → List Naming → Option LineFault → Option LineFault
refused_by taken named fault = or_else (shared_fault (first_shared taken named)) fault

abbrev pub naming_of : Option ℕ → ℕ → Bool → Option Naming
naming_of None line taken = None
naming_of (Some member) line taken = if taken then Some (record { member = member; line = line }) else None

-- a line may have named a member, and this was noted
pub record Notes (named : Option ℕ) (line : ℕ) (old new : List Naming) : Type 0 where
  pub first : (taken : ℕ → Bool) → first_shared taken new ≡ or_else (first_shared taken old) (naming_of named line (is_taken taken named))
  pub names : (member : ℕ) → has_name new member ≡ (has_name old member || is_member member named)
