-- The conflation of all symbols and markets: each has a cell of its own.
use Rattle.std.specs.Prelude.{ℕ, ℤ, ◌==◌, Bool, ◌&&◌, List, [], ◌∷◌, ◌++◌, set, position, slice_get, Option, Some, None}
use Rattle.quote_flow.specs.declared.quote.MarketQuote.{MarketQuote}
use Rattle.quote_flow.specs.declared.quote.Sides.{Sides}
use Rattle.quote_flow.specs.declared.cell.Step.{Step}
use Rattle.quote_flow.specs.declared.table.Slot.{Slot}
use Rattle.quote_flow.specs.Cells.{fresh, on_quote, on_tick}

-- a quote is of this symbol and market
abbrev pub is_of : MarketQuote → Slot → Bool
is_of quote slot = slot.symbol == quote.symbol && slot.market == quote.market

-- the quote of a symbol at a market that passes, if one does
abbrev pub quote_of : ℕ → ℕ → Option Sides → List MarketQuote
quote_of symbol market None = []
quote_of symbol market (Some sides) = record { symbol = symbol; market = market; sides = sides } ∷ []

-- a slot after a step of its cell
abbrev pub stepped : Slot → Step → Slot
stepped slot step = record { symbol = slot.symbol; market = slot.market; cell = step.cell }

-- a symbol at a market of which nothing came yet
abbrev pub new_slot : MarketQuote → Slot
new_slot quote = record { symbol = quote.symbol; market = quote.market; cell = fresh }

-- a quote comes to the slot at a place
abbrev pub slots_at : ℕ → ℤ → List Slot → Sides → ℕ → Option Slot → List Slot
slots_at pace moment slots sides at None = slots
slots_at pace moment slots sides at (Some slot) = set slots at (stepped slot (on_quote pace moment slot.cell sides))

abbrev pub passes_at : ℕ → ℤ → Sides → Option Slot → Option Sides
passes_at pace moment sides None = None
passes_at pace moment sides (Some slot) = (on_quote pace moment slot.cell sides).passes

-- a quote comes: to the slot of its symbol and market, which is made for the first one
abbrev pub slots_by : ℕ → ℤ → List Slot → MarketQuote → Option ℕ → List Slot
slots_by pace moment slots quote None = slots ++ stepped (new_slot quote) (on_quote pace moment fresh quote.sides) ∷ []
slots_by pace moment slots quote (Some at) = slots_at pace moment slots quote.sides at (slice_get slots at)

abbrev pub passes_by : ℕ → ℤ → List Slot → MarketQuote → Option ℕ → Option Sides
passes_by pace moment slots quote None = (on_quote pace moment fresh quote.sides).passes
passes_by pace moment slots quote (Some at) = passes_at pace moment quote.sides (slice_get slots at)

unfoldable pub slots_with : ℕ → ℤ → List Slot → MarketQuote → List Slot
slots_with pace moment slots quote = slots_by pace moment slots quote (position (is_of quote) slots)

unfoldable pub passed_with : ℕ → ℤ → List Slot → MarketQuote → List MarketQuote
passed_with pace moment slots quote =
    quote_of quote.symbol quote.market (passes_by pace moment slots quote (position (is_of quote) slots))

-- quotes come at a moment, one after the other
abbrev pub slots_after : ℕ → ℤ → List Slot → List MarketQuote → List Slot
slots_after pace moment slots [] = slots
slots_after pace moment slots (quote ∷ quotes) = slots_after pace moment (slots_with pace moment slots quote) quotes

abbrev pub passed_after : ℕ → ℤ → List Slot → List MarketQuote → List MarketQuote
passed_after pace moment slots [] = []
passed_after pace moment slots (quote ∷ quotes) =
    passed_with pace moment slots quote ++ passed_after pace moment (slots_with pace moment slots quote) quotes

-- the clock says a moment to all slots
abbrev pub slots_ticked : ℕ → ℤ → List Slot → List Slot
slots_ticked pace moment [] = []
slots_ticked pace moment (slot ∷ slots) = stepped slot (on_tick pace moment slot.cell) ∷ slots_ticked pace moment slots

abbrev pub passed_ticked : ℕ → ℤ → List Slot → List MarketQuote
passed_ticked pace moment [] = []
passed_ticked pace moment (slot ∷ slots) =
    quote_of slot.symbol slot.market (on_tick pace moment slot.cell).passes ++ passed_ticked pace moment slots

-- ---- turns

-- how many milliseconds apart quotes pass, or none where all do, and what is known
pub record Table : Type 0 where
  pub pace : Option ℕ
  pub slots : List Slot

abbrev pub slots_turned : Option ℕ → ℤ → List Slot → List MarketQuote → List Slot
slots_turned None moment slots quotes = slots
slots_turned (Some pace) moment slots quotes = slots_ticked pace moment (slots_after pace moment slots quotes)

abbrev pub passed_turned : Option ℕ → ℤ → List Slot → List MarketQuote → List MarketQuote
passed_turned None moment slots quotes = quotes
passed_turned (Some pace) moment slots quotes =
    passed_after pace moment slots quotes ++ passed_ticked pace moment (slots_after pace moment slots quotes)

-- quotes come, and the clock says a moment: what is known then, and what passes; without a pace all quotes pass
abbrev pub turned : Table → ℤ → List MarketQuote → Table
turned table moment quotes = record { pace = table.pace; slots = slots_turned table.pace moment table.slots quotes }

abbrev pub passed : Table → ℤ → List MarketQuote → List MarketQuote
passed table moment quotes = passed_turned table.pace moment table.slots quotes
