-- What a symbol's journal makes in a venue of a config, and how many steps an event may take over it.
use Rattle.std.specs.Prelude.{ℕ, List, length, slice_index}
use Rattle.venue_words.specs.declared.config.Config.{Config}
use Rattle.venue_words.specs.declared.command.Event.{Event}
use Rattle.eager_meaning.specs.Step.{Run, runs}
use Rattle.eager_meaning.specs.Work.{bound}

-- the state of the symbol's book, and all reports
unfoldable pub run_in : Config → ℕ → List Event → Run
run_in config symbol journal = runs (length config.markets) (slice_index config.ticks symbol) journal

-- the most steps that an event behind the journal may take
unfoldable pub most_steps : Config → ℕ → List Event → Event → ℕ
most_steps config symbol journal event =
    bound (slice_index config.ticks symbol) (run_in config symbol journal).state event.number event.command
