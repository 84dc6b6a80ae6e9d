-- The rows of one peg group, priced by the group's moves.
use Rattle.std.specs.Prelude.{◌≡◌, ℕ, ◌≤◌, max, List, Option, Some, None, ◌==◌, if◌then◌else◌, true, false, min}
use Rattle.venue_words.specs.Peg.{row_value}
use Rattle.venue_words.specs.Priority.{is_ahead}
use Rattle.venue_words.specs.declared.row.Priced.{Priced}
use Rattle.venue_words.specs.declared.row.Row.{Row}
use Rattle.std.specs.List.{AllByRecursion}
use Rattle.limit_tree.specs.Order.{is_held}
use Rattle.move_history.specs.Staircase.{Staircase, last_change}

-- the number that a history of moves has for a value: 0 for none
abbrev pub value_number : Option ℕ → ℕ
value_number None = 0
value_number (Some value) = value

abbrev pub value_from : ℕ → Option ℕ
value_from value = if value == 0 then None else Some value

-- the time of a row: when the lesser of the group's value and the row's cap last changed, or its entry
abbrev pub time_in : Staircase → ℕ → ℕ → ℕ
time_in moves cap entry = max entry (last_change moves cap)

-- a row of the group with its value and time
abbrev pub priced_in : Staircase → Row → Priced
priced_in moves row = record { row = row; value = row_value (value_from moves.current) row.cap; time = time_in moves row.cap row.entry }

-- a held pair with the value and time of its row, before which no row of the group goes
pub record IsGroupBest (moves : Staircase) (rows : List Row) (value time cap entry : ℕ) : Type 0 where
  pub held : is_held cap entry rows ≡ true
  pub value_is : value ≡ min moves.current cap
  pub time_is : time ≡ time_in moves cap entry
  pub first : AllByRecursion (λ row. is_ahead (min moves.current row.cap) (time_in moves row.cap row.entry) row.entry value time entry ≡ false) rows

-- time s and entry f go first or are those of time t and entry e
pub record IsNotAfter (t e s f : ℕ) : Type 0 where
  pub time : s ≤ t
  pub entry : s ≡ t → f ≤ e
