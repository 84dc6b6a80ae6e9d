-- The commands that the lines of a feed give.
use Rattle.std.specs.Prelude.{ℕ, ℤ, ◌==◌, List, [], ◌∷◌, ◌++◌, map, filter, Result, Ok, Err}
use Rattle.venue_words.specs.declared.command.Command.{Command}
use Rattle.venue_words.specs.declared.config.Config.{Config}
use Rattle.member_gate.specs.Answering.{Submission}
use Rattle.script_text.specs.Lines.{cut}
use Rattle.script_text.specs.declared.fault.LineFault.{LineFault}
use Rattle.line_work.specs.FeedState.{FeedState, before_lines}
use Rattle.line_work.specs.LineWork.{LineWork, work_of_text}

abbrev pub at_moment : ℤ → List Submission → List (ℤ × Submission)
at_moment moment submissions = map (λ one. (moment, one)) submissions

-- the commands of a line with its moment, and then those of the lines behind it; none where the line is refused
abbrev pub and_then : Result LineWork LineFault → (FeedState → List (ℤ × Submission)) → List (ℤ × Submission)
and_then (Ok work) next = at_moment work.state.moment work.submissions ++ next work.state
and_then (Err fault) next = []

-- the commands of lines in their order, each with its moment, up to the first line that is refused
unfoldable pub submitted_by : FeedState → List (List ℕ) → List (ℤ × Submission)
submitted_by state [] = []
submitted_by state (line ∷ lines) = and_then (work_of_text state line) (λ next. submitted_by next lines)

-- those for one symbol
abbrev pub commands_for : ℕ → List (ℤ × Submission) → List (ℤ × Command)
commands_for symbol all = map (λ one. (one.0, one.1.command)) (filter (λ one. one.1.symbol == symbol) all)

-- the commands of a feed whose lines these are, for one symbol
abbrev pub commands_of : Config → List (List ℕ) → ℕ → List (ℤ × Command)
commands_of config lines symbol = commands_for symbol (submitted_by (before_lines config) lines)

-- the commands of a feed with this text for all symbols, in their order
abbrev pub all_commands : Config → List ℕ → List (ℤ × Submission)
all_commands config text = submitted_by (before_lines config) (cut text).lines

-- those that it gives to one symbol
abbrev pub commands : Config → List ℕ → ℕ → List (ℤ × Command)
commands config text symbol = commands_of config (cut text).lines symbol
