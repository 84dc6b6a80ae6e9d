-- The first symbol for which feeds have more commands than its journal may hold.
use Rattle.std.specs.Prelude.{ℕ, ◌+◌, List, [], ◌∷◌, length, Option, Some, None, nat_lt, if◌then◌else◌, sum_by}
use Rattle.venue_words.specs.declared.config.Config.{Config}
use Rattle.line_work.specs.Commands.{commands}

-- the first of these limits, which are those of the symbols from n on, that is below the symbol's count
abbrev pub first_over : ℕ → List ℕ → (ℕ → ℕ) → Option ℕ
first_over n [] count = None
first_over n (limit ∷ limits) count = if nat_lt limit (count n) then Some n else first_over (n + 1) limits count

-- how many commands feeds with these texts have for a symbol
abbrev pub commands_in : Config → List (List ℕ) → ℕ → ℕ
commands_in config texts symbol = sum_by (λ text. length (commands config text symbol)) texts

-- the first symbol, in the config's order, that has too many
unfoldable pub first_full : Config → List (List ℕ) → Option ℕ
first_full config texts = first_over 0 config.limits (commands_in config texts)
