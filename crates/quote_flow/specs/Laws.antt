-- What holds of every run of quotes and ticks over one symbol at one market.
use Rattle.std.specs.Prelude.{◌≡◌, ◌⊎◌, ⊤, ℕ, ℤ, false, List, [], ◌∷◌, ◌++◌, Option, Some, None}
use Rattle.std.specs.Option.{option_to_list}
use Rattle.quote_flow.specs.declared.quote.Sides.{Sides}
use Rattle.quote_flow.specs.declared.cell.Passed.{Passed}
use Rattle.quote_flow.specs.declared.cell.Cell.{Cell}
use Rattle.quote_flow.specs.declared.cell.Step.{Step}
use Rattle.quote_flow.specs.Cells.{fresh, may_pass, on_quote, on_tick}

-- a quote comes at a moment, or the clock says one
pub data Event : Type 0 where
  comes : ℤ → Sides → Event
  ticks : ℤ → Event

abbrev pub step_of : ℕ → Cell → Event → Step
step_of pace cell (comes moment sides) = on_quote pace moment cell sides
step_of pace cell (ticks moment) = on_tick pace moment cell

-- the cell after events
abbrev pub cell_after : ℕ → Cell → List Event → Cell
cell_after pace cell [] = cell
cell_after pace cell (event ∷ events) = cell_after pace (step_of pace cell event).cell events

-- what passes in them
abbrev pub passed_in : ℕ → Cell → List Event → List Sides
passed_in pace cell [] = []
passed_in pace cell (event ∷ events) =
    option_to_list (step_of pace cell event).passes ++ passed_in pace (step_of pace cell event).cell events

abbrev pub came_with : Event → List Sides
came_with (comes moment sides) = sides ∷ []
came_with (ticks moment) = []

-- what comes in them
abbrev pub came_in : List Event → List Sides
came_in [] = []
came_in (event ∷ events) = came_with event ++ came_in events

-- some of these quotes, each at most once and in their order
abbrev pub AreSomeOf : List Sides → List Sides → Type 0
AreSomeOf [] quotes = ⊤
AreSomeOf (one ∷ others) [] = ⊥
AreSomeOf (one ∷ others) (quote ∷ quotes) = ((one ≡ quote) × AreSomeOf others quotes) ⊎ AreSomeOf (one ∷ others) quotes

-- what passes is some of what comes, in order, each quote once
abbrev pub PassesSome : Type 0
PassesSome = (pace : ℕ) (events : List Event) → AreSomeOf (passed_in pace fresh events) (came_in events)

-- the last of these, where there is one, and else the one before them
abbrev pub last_of : Option Sides → List Sides → Option Sides
last_of before [] = before
last_of before (quote ∷ quotes) = last_of (Some quote) quotes

abbrev pub or_else : Option Sides → Option Sides → Option Sides
or_else None second = second
or_else (Some sides) second = Some sides

abbrev pub last_passed : Option Passed → Option Sides
last_passed None = None
last_passed (Some last) = Some last.sides

-- the quote that is held, and else the one that passed last
abbrev pub newest : Cell → Option Sides
newest cell = or_else cell.held (last_passed cell.last)

-- the last quote that came is held or passed last: no newer one is ever lost, nor an older one kept in its place
abbrev pub KeepsLast : Type 0
KeepsLast = (pace : ℕ) (events : List Event) → newest (cell_after pace fresh events) ≡ last_of None (came_in events)

-- at each tick nothing stays held whose time has come: a quote is held only while the one before it passed less than so many
-- milliseconds ago
abbrev pub HoldsNoLonger : Type 0
HoldsNoLonger =
    (pace : ℕ) (moment : ℤ) (cell : Cell)
    → ((on_tick pace moment cell).cell.held ≡ None) ⊎ (may_pass pace (on_tick pace moment cell).cell.last moment ≡ false)
