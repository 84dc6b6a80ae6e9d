-- The lines of a day as a script of `pegreplay`: where they lead, and what each yields.
use Rattle.std.specs.Prelude.{◌≡◌, ℕ, ◌+◌, Bool, true, false, ◌&&◌, not, List, [], ◌∷◌, length, Option, None, Some, option_map, Result, Ok, Err, nat_le, if◌then◌else◌}
use Rattle.std.specs.Option.{option_and_then}
use Rattle.std.specs.Result.{result_ok}
use Rattle.venue_words.specs.Floors.{SymbolView}
use Rattle.venue_words.specs.declared.limits.TheConstants.{MAX_LINE_BYTES, MAX_SCRIPT_BYTES}
use Rattle.script_text.specs.Lines.{has_end}
use Rattle.script_text.specs.declared.fault.LineFault.{LineFault}
use Rattle.replay_core.specs.Phases.{IsAtStage}
use Rattle.replay_core.specs.Play.{Place, step_at, start}
use Rattle.replay_core.specs.declared.phase.Phase.{Phase}
use Rattle.live_core.specs.Lines.{Yields}

-- a line that may stand after so many bytes of a script: it is not too long, all bytes with its LF keep to the limit, and it
-- holds no LF
abbrev pub fits : ℕ → List ℕ → Bool
fits before text =
    nat_le (length text) MAX_LINE_BYTES && (nat_le (before + length text + 1) MAX_SCRIPT_BYTES && not (has_end text))

-- a line at a place of a script: the place after it, with its output; nothing where it is refused
unfoldable pub taken_at : Place → List ℕ → Option (Place × List ℕ)
taken_at place line = if has_end line then None else result_ok (step_at place line).result

-- the place after lines, each of them taken after those before it; nothing where one is refused
abbrev pub place_from : Place → List (List ℕ) → Option Place
place_from place [] = Some place
place_from place (line ∷ lines) = option_and_then (λ next. place_from next.0 lines) (taken_at place line)

abbrev pub place_after : List (List ℕ) → Option Place
place_after lines = place_from start lines

-- what a line yields after those that were taken before it: what `pegreplay` prints of it; nothing where it is refused
abbrev pub yields : Yields
yields past line = option_map (λ next. next.1) (option_and_then (λ place. taken_at place line) (place_after past))

-- what a machine keeps: whether it is in the header or after it, how many lines it has taken, of how many bytes with their LFs,
-- and the steps that were counted
pub record MachineView (F : Type 0) : Type 0 where
  pub phase : Phase F
  pub lines : ℕ
  pub bytes : ℕ
  pub steps : ℕ

abbrev pub machine_of : {F : Type 0} → Phase F → ℕ → ℕ → ℕ → MachineView F
machine_of phase lines bytes steps = record { phase = phase; lines = lines; bytes = bytes; steps = steps }

-- a machine is at a place of a script
pub record IsAt {F : Type 0} (at : F → ℕ → SymbolView) (machine : MachineView F) (place : Place) : Type 0 where
  pub stage : IsAtStage at machine.phase place.stage
  pub lines : machine.lines ≡ place.lines
  pub bytes : machine.bytes ≡ place.bytes

-- a machine has taken exactly these lines, and is at the place to which they lead
abbrev pub HasTaken : {F : Type 0} → (F → ℕ → SymbolView) → MachineView F → List (List ℕ) → Type 0
HasTaken at machine lines = (place : Place) × (place_after lines ≡ Some place) × IsAt at machine place

-- a line is refused
abbrev pub IsRefused : {V : Type 0} → Result (V × List ℕ) LineFault → Type 0
IsRefused meant = (fault : LineFault) × (meant ≡ Err fault)

-- a line was taken, with this output; or it is refused, and what stood before it stands now
abbrev pub TakesLine : {T V : Type 0} → (T → V → Type 0) → Result (V × List ℕ) LineFault → V → T → List ℕ → Bool → Type 0
TakesLine {T} {V} stands meant before now text true = (after : V) × (meant ≡ Ok (after, text)) × stands now after
TakesLine {T} {V} stands meant before now text false = IsRefused meant × stands now before
