-- The books of a venue that feeds were worked on.
use Rattle.std.specs.Prelude.{◌≡◌, ℕ, ◌+◌, ◌<◌, ◌≤◌, List, Some, length, map, slice_get, slice_index, sum_by}
use Rattle.venue_words.specs.declared.config.Config.{Config}
use Rattle.eager_meaning.specs.Interleaving.{Interleaves}
use Rattle.symbol_book.specs.Book.{BookView}
use Rattle.symbol_book.specs.Setting.{book_setting, run_at}
use Rattle.venue_core.specs.Runs.{run_in}
use Rattle.feed_work.specs.Feeds.{Asked, commands_at}

-- how many commands the feeds have for a symbol
abbrev pub count_at : ℕ → List (List Asked) → ℕ
count_at symbol feeds = sum_by (λ commands. length (commands_at symbol commands)) feeds

-- no symbol is asked for more events than its journal may hold
abbrev pub FitLimits : Config → List (List Asked) → Type 0
FitLimits config feeds =
    (symbol : ℕ) → symbol < length config.symbols → count_at symbol feeds ≤ slice_index config.limits symbol

-- the book of a symbol: its journal holds the commands of each feed for the symbol, once and in the feed's order, and nothing
-- else, and it makes there what the market's rules make of it with the config
pub record IsWorkedBook (config : Config) (feeds : List (List Asked)) (symbol : ℕ) (book : BookView) : Type 0 where
  pub interleaves : Interleaves book.journal (map (commands_at symbol) feeds)
  pub run : run_at (book_setting book) book.journal ≡ run_in config symbol book.journal

-- each book makes what the market's rules make of its journal with the config
abbrev pub MakeRuns : Config → List BookView → Type 0
MakeRuns config books =
    (symbol : ℕ) (book : BookView) → slice_get books symbol ≡ Some book
    → run_at (book_setting book) book.journal ≡ run_in config symbol book.journal

-- the same of the books of symbols that stand one behind the other in the config, from this one on
abbrev pub MakeRunsFrom : Config → ℕ → List BookView → Type 0
MakeRunsFrom config first books =
    (place : ℕ) (book : BookView) → slice_get books place ≡ Some book
    → run_at (book_setting book) book.journal ≡ run_in config (first + place) book.journal
