-- Which configs have names that can stand in the lines of a listing.
use Rattle.std.specs.Prelude.{ℕ, Bool, ◌&&◌, not, List}
use Rattle.std.specs.List.{list_all}
use Rattle.venue_words.specs.declared.config.Config.{Config}
use Rattle.script_text.specs.Lines.{has_end}

-- whether no line ends in a name
abbrev pub is_on_line : List ℕ → Bool
is_on_line name = not (has_end name)

abbrev pub are_on_lines : List (List ℕ) → Bool
are_on_lines names = list_all is_on_line names

-- whether no line ends in a name of a config
unfoldable pub has_line_names : Config → Bool
has_line_names config = are_on_lines config.members && (are_on_lines config.markets && are_on_lines config.symbols)
