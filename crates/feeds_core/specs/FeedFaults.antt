-- The first refused line of feeds. The config is file 0, and the feeds are files 1, 2 and so on.
use Rattle.std.specs.Prelude.{ℕ, ◌+◌, List, [], ◌∷◌, ◌++◌, length, Option, None, option_map}
use Rattle.venue_words.specs.declared.config.Config.{Config}
use Rattle.script_text.specs.declared.fault.LineFault.{LineFault}
use Rattle.feeds_core.specs.FeedLines.{name_one, feed_fault, or_else}

-- a refused line of a file
abbrev pub at_file : ℕ → Option LineFault → Option (ℕ × LineFault)
at_file file fault = option_map (λ f. (file, f)) fault

-- the first refused line of these feeds, which stand behind other ones; so many bytes stand before them. The members that
-- those others name are taken.
unfoldable pub feeds_fault : Config → List (List ℕ) → ℕ → List (List ℕ) → Option (ℕ × LineFault)
feeds_fault config others bytes [] = None
feeds_fault config others bytes (text ∷ texts) =
    or_else (at_file (length others + 1) (feed_fault config (name_one config others) bytes text))
    (feeds_fault config (others ++ text ∷ []) (bytes + length text) texts)
