-- The first refused line of a day's script: as in a replay, but under the day's own limit on the script's bytes.
use Rattle.std.specs.Prelude.{◌≡◌, ◌≤◌, ℕ, ◌+◌, List, [], ◌∷◌, length, Option, Some, None, option_map, Result, Ok, Err}
use Rattle.venue_words.specs.declared.limits.TheConstants.{MAX_DAY_BYTES}
use Rattle.line_reader.specs.Over.{weighed}
use Rattle.replay_core.specs.Play.{Place, step_at, end_at, start, script}
use Rattle.script_text.specs.Lines.{cut}
use Rattle.script_text.specs.declared.fault.LineFault.{LineFault}

-- the line behind a place: what a replay makes of it, under the day's limit
abbrev pub day_step : Place → List ℕ → Result (Place × List ℕ) LineFault
day_step place line =
    weighed MAX_DAY_BYTES (place.lines + 1) (place.bytes + length line + 1) (step_at place line).result

-- why a line is refused, and how many lines stand before it
pub record Refusal : Type 0 where
  pub before : ℕ
  pub why : LineFault

abbrev pub refusal_here : ℕ → Option LineFault → Option Refusal
refusal_here before None = None
refusal_here before (Some fault) = Some (record { before = before; why = fault })

abbrev pub refusal_behind : ℕ → Result (Place × List ℕ) LineFault → (Place → Option Refusal) → Option Refusal
refusal_behind before (Ok x) next = next x.0
refusal_behind before (Err fault) next = refusal_here before (Some fault)

-- the first refusal among the lines from a place on, and what stands behind them
unfoldable pub refusal_from : Place → List (List ℕ) → List ℕ → Option Refusal
refusal_from place [] rest = refusal_here place.lines (end_at place rest).fault
refusal_from place (line ∷ lines) rest =
    refusal_behind place.lines (day_step place line) (λ next. refusal_from next lines rest)

-- the first refusal of a whole script
abbrev pub refusal : List ℕ → Option Refusal
refusal text = refusal_from start (cut text).lines (cut text).rest

-- a script within the limit is refused where a replay refuses it
abbrev pub RefusesAsReplay : Type 0
RefusesAsReplay = (text : List ℕ) → length text ≤ MAX_DAY_BYTES → option_map (λ r. r.why) (refusal text) ≡ (script text).fault
