-- The markets and the tick that a setting was made of are read back from it.
use Rattle.std.proofs.Common.{◌≡◌, ℕ, List, ap, ◌∙◌, inl, inr, arith}
use Rattle.venue_words.specs.Conditions.{IsTick}
use Rattle.venue_words.specs.declared.command.Event.{Event}
use Rattle.eager_meaning.specs.Step.{Run, runs}
use Rattle.eager_meaning.specs.Work.{bound}
use Rattle.symbol_book.specs.Setting.{setting_of, markets_in, tick_in, run_at, steps_at}

pub markets_in-setting_of : (markets tick : ℕ) → IsTick tick → markets_in (setting_of markets tick) ≡ markets
markets_in-setting_of markets tick (inl e) = omega arith
markets_in-setting_of markets tick (inr e) = omega arith

pub tick_in-setting_of : (markets tick : ℕ) → IsTick tick → tick_in (setting_of markets tick) ≡ tick
tick_in-setting_of markets tick (inl e) = omega arith
tick_in-setting_of markets tick (inr e) = omega arith

pub run_at-setting_of : (markets tick : ℕ) (journal : List Event) → IsTick tick
    → run_at (setting_of markets tick) journal ≡ runs markets tick journal
run_at-setting_of markets tick journal is =
    ap (λ (m : ℕ). runs m (tick_in (setting_of markets tick)) journal) (markets_in-setting_of markets tick is)
    ∙ ap (λ (t : ℕ). runs markets t journal) (tick_in-setting_of markets tick is)

pub steps_at-setting_of : (markets tick : ℕ) (journal : List Event) (event : Event) → IsTick tick
    → steps_at (setting_of markets tick) journal event
    ≡ bound tick (runs markets tick journal).state event.number event.command
steps_at-setting_of markets tick journal event is =
    ap (λ (t : ℕ). bound t (run_at (setting_of markets tick) journal).state event.number event.command)
    (tick_in-setting_of markets tick is)
    ∙ ap (λ (run : Run). bound tick run.state event.number event.command) (run_at-setting_of markets tick journal is)
