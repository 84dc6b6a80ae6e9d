-- Floors of one thread, over the plain meaning of each symbol's journal.
use Rattle.std.specs.Prelude.{◌≡◌, ℕ, ◌<◌, List, length, Option, Some}
use Rattle.std.specs.List.{range_with_len}
use Rattle.venue_words.specs.declared.config.Config.{Config}
use Rattle.venue_words.specs.declared.command.Event.{Event}
use Rattle.venue_words.specs.Floors.{FloorMark, SymbolView, setup_of}
use Rattle.eager_meaning.specs.State.{State}
use Rattle.venue_core.specs.Runs.{run_in, most_steps}
use Rattle.replay_core.specs.Playing.{journal_at, reports_in}

-- the floors of this mark are set up with the config: every event is an own one, the reports and the state of a symbol's
-- book are those of its journal, and it is said how many steps an event may take
pub record IsPlain {F : Type 0} (mark_of : F → FloorMark) (at : F → ℕ → SymbolView) (step_limit : FloorMark → ℕ → List Event → Event → Option ℕ) (state : F → ℕ → State) (config : Config) (mark : FloorMark) : Type 0 where
  pub setup : mark.setup ≡ setup_of config
  pub own : (floor : F) (symbol : ℕ) → (at floor symbol).mine ≡ range_with_len 1 (length (at floor symbol).journal)
  pub reports : (floor : F) (symbol : ℕ) → mark_of floor ≡ mark → symbol < length config.symbols
      → (at floor symbol).reports ≡ reports_in config symbol (at floor symbol).journal
  pub states : (floor : F) (symbol : ℕ) → mark_of floor ≡ mark → symbol < length config.symbols
      → state floor symbol ≡ (run_in config symbol (at floor symbol).journal).state
  pub steps : (symbol : ℕ) (journal : List Event) (event : Event) → symbol < length config.symbols
      → step_limit mark symbol journal event ≡ Some (most_steps config symbol journal event)
  pub counted : (symbol : ℕ) (journal : List Event) (event : Event)
      → (most : ℕ) × (step_limit mark symbol journal event ≡ Some most)

-- the floor shows these journals
abbrev pub ShowsJournals : {F : Type 0} → (F → ℕ → SymbolView) → Config → F → List (List Event) → Type 0
ShowsJournals at config floor journals =
    (symbol : ℕ) → symbol < length config.symbols → (at floor symbol).journal ≡ journal_at journals symbol
