-- A script in the middle of its lines.
use Rattle.std.specs.Prelude.{◌≡◌, ℕ, ◌+◌, Bool, List, ◌∷◌, ◌++◌, length, nat_lt, Option}
use Rattle.std.specs.Io.KnownBytes.{Consumes}
use Rattle.venue_words.specs.Floors.{SymbolView}
use Rattle.venue_words.specs.declared.limits.TheConstants.{MAX_SCRIPT_BYTES}
use Rattle.script_text.specs.declared.fault.LineFault.{LineFault}
use Rattle.replay_core.specs.Phases.{IsAtStage}
use Rattle.replay_core.specs.Play.{Place, played, start, end_at}
use Rattle.replay_core.specs.Telling.{Seen, Leads}
use Rattle.replay_core.specs.declared.phase.Phase.{Phase}

-- a phase stands for the stage of a place
abbrev pub IsAtPlace : {F : Type 0} → (F → ℕ → SymbolView) → Phase F → Place → Type 0
IsAtPlace at phase place = IsAtStage at phase place.stage

-- a line of this number and text stands behind a place, and is over or not
pub record IsLineAt (number : ℕ) (text : List ℕ) (is_over : Bool) (place : Place) : Type 0 where
  pub counted : number ≡ place.lines + 1
  pub over : is_over ≡ nat_lt MAX_SCRIPT_BYTES (place.bytes + length text + 1)

-- the phase stands behind a line of a place
pub record IsBehind {F : Type 0} (at : F → ℕ → SymbolView) (place : Place) (line : List ℕ) (phase : Phase F) (next : Place) : Type 0 where
  pub there : IsAtPlace at phase next
  pub lines : next.lines ≡ place.lines + 1
  pub bytes : next.bytes ≡ place.bytes + length line + 1

-- a line was worked and its output was put: the phase stands behind it, and what was told leads there
pub record Goes {F : Type 0} (at : F → ℕ → SymbolView) (old new : Seen) (place : Place) (line : List ℕ) (phase : Phase F) : Type 0 where
  pub next : Place
  pub behind : IsBehind at place line phase next
  pub leads : Leads old new (λ more. played place (line ++ 10 ∷ more)) (played next)

-- why the script may not end here
abbrev pub fault_in : Place → List ℕ → Option LineFault
fault_in place rest = (end_at place rest).fault

-- in the middle of a file, with so many lines and bytes worked and these bytes held: the phase stands where the lines lead
pub record InMiddle {F : Type 0} (at : F → ℕ → SymbolView) (first left : Option (List ℕ)) (old new : Seen) (lines bytes : ℕ)
    (held : List ℕ) (phase : Phase F) : Type 0 where
  pub place : Place
  pub there : IsAtPlace at phase place
  pub lines_are : lines ≡ place.lines
  pub bytes_are : bytes ≡ place.bytes
  pub worked : List ℕ
  pub taken : Consumes first left (worked ++ held)
  pub leads : Leads old new (λ more. played start (worked ++ more)) (played place)
