-- How a phase stands for a stage of a script.
use Rattle.std.specs.Prelude.{◌≡◌, ℕ, Some}
use Rattle.venue_words.specs.Conditions.{IsConfig}
use Rattle.venue_words.specs.Floors.{SymbolView}
use Rattle.script_text.specs.declared.fault.LineFault.{LineFault}
use Rattle.replay_core.specs.Play.{Stage, Head, Body}
use Rattle.replay_core.specs.Stages.{StandsFor}
use Rattle.replay_core.specs.declared.phase.Phase.{Phase}
use Rattle.replay_core.specs.declared.phase.Phase.TheVariants as phase

-- a phase stands for a stage
abbrev pub IsAtStage : {F : Type 0} → (F → ℕ → SymbolView) → Phase F → Stage → Type 0
IsAtStage at (phase.Head header) (Head other) = header ≡ other
IsAtStage at (phase.Head header) (Body playing) = ⊥
IsAtStage at (phase.Body player) (Head header) = ⊥
IsAtStage at (phase.Body player) (Body playing) = StandsFor at player playing
IsAtStage at (phase.Refused fault) stage = ⊥

-- a phase stands at a fault
abbrev pub IsAtFault : {F : Type 0} → Phase F → LineFault → Type 0
IsAtFault (phase.Head header) fault = ⊥
IsAtFault (phase.Body player) fault = player.fault ≡ Some fault
IsAtFault (phase.Refused other) fault = other ≡ fault

-- the config of a header is within the limits
abbrev pub IsReady : {F : Type 0} → Phase F → Type 0
IsReady (phase.Head header) = IsConfig header.config
IsReady (phase.Body player) = Unit {0}
IsReady (phase.Refused fault) = Unit {0}
