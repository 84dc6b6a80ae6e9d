-- A history that holds each feed's commands, once and in the feed's order.
use Rattle.std.specs.Prelude.{◌≡◌, ℕ, ◌+◌, ◌==◌, List, length, map, filter, sum_by, ℤ, slice_get, Some}
use Rattle.venue_words.specs.declared.command.Event.{Event}
use Rattle.venue_words.specs.declared.command.Command.{Command}

-- a command with its moment
abbrev pub Timed : Type 0
Timed = ℤ × Command

-- what a history holds of one feed
abbrev pub commands_of : ℕ → List Event → List Timed
commands_of feed history = map (λ event. (event.moment, event.command)) (filter (λ event. event.feed == feed) history)

-- the k-th list, counted from 1, is what the history holds of feed k; and it holds nothing else
pub record Interleaves (history : List Event) (feeds : List (List Timed)) : Type 0 where
  pub counts : length history ≡ sum_by (λ commands. length commands) feeds
  pub each : (k : ℕ) (commands : List Timed) → slice_get feeds k ≡ Some commands → commands_of (k + 1) history ≡ commands
