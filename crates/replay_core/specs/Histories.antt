-- The place behind lines of a script.
use Rattle.std.specs.Prelude.{ℕ, List, [], ◌∷◌, Option, Some, None, Result, Ok, Err}
use Rattle.script_text.specs.declared.fault.LineFault.{LineFault}
use Rattle.replay_core.specs.Play.{Place, step_at}

abbrev pub behind_result : Result (Place × List ℕ) LineFault → (Place → Option Place) → Option Place
behind_result (Ok x) next = next x.0
behind_result (Err fault) next = None

-- the place behind lines, where none of them is refused
unfoldable pub place_behind : Place → List (List ℕ) → Option Place
place_behind place [] = Some place
place_behind place (line ∷ lines) = behind_result (step_at place line).result (λ next. place_behind next lines)
