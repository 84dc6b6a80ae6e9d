-- Which quotes of one symbol at one market pass, and which are held.
use Rattle.std.specs.Prelude.{ℕ, ℤ, pos, ◌-ℤ◌, int_le, Bool, true, false, not, ◌&&◌, ◌||◌, nat_le, if◌then◌else◌, Option, Some, None, is_some, is_none}
use Rattle.quote_flow.specs.declared.quote.Sides.{Sides}
use Rattle.quote_flow.specs.declared.cell.Passed.{Passed}
use Rattle.quote_flow.specs.declared.cell.Cell.{Cell}
use Rattle.quote_flow.specs.declared.cell.Step.{Step}

-- a bid is as high as an offer
abbrev pub reaches : Option ℕ → Option ℕ → Bool
reaches (Some bid) (Some offer) = nat_le offer bid
reaches (Some bid) None = false
reaches None offer = false

-- a side loses its price
abbrev pub is_emptied : Option ℕ → Option ℕ → Bool
is_emptied old new = is_some old && is_none new

-- a quote crosses itself or what passed last
abbrev pub crosses : Sides → Sides → Bool
crosses last new = reaches new.bid new.offer || (reaches new.bid last.offer || reaches last.bid new.offer)

-- a quote that passes at once: one that crosses, or that empties a side
abbrev pub is_urgent : Sides → Sides → Bool
is_urgent last new = crosses last new || (is_emptied last.bid new.bid || is_emptied last.offer new.offer)

-- so many milliseconds have passed since the last quote passed; a clock that went back holds nothing
abbrev pub is_due : ℕ → Passed → ℤ → Bool
is_due pace last moment = not (int_le last.moment moment) || int_le (pos pace) (moment -ℤ last.moment)

-- a quote passes when it comes: the first one, one that is due, and one that is urgent
abbrev pub passes_now : ℕ → Option Passed → ℤ → Sides → Bool
passes_now pace None moment new = true
passes_now pace (Some last) moment new = is_due pace last moment || is_urgent last.sides new

-- nothing came yet
abbrev pub fresh : Cell
fresh = record { last = None; held = None }

-- a quote passes, and none is held
abbrev pub passing : ℤ → Sides → Step
passing moment sides =
    record { cell = record { last = Some (record { sides = sides; moment = moment }); held = None }; passes = Some sides }

-- a quote is held, in place of one that was
abbrev pub holding : Cell → Sides → Step
holding cell sides = record { cell = record { last = cell.last; held = Some sides }; passes = None }

-- nothing happens
abbrev pub rests : Cell → Step
rests cell = record { cell = cell; passes = None }

-- a quote comes
abbrev pub on_quote : ℕ → ℤ → Cell → Sides → Step
on_quote pace moment cell sides =
    if passes_now pace cell.last moment sides then passing moment sides else holding cell sides

-- the last quote that passed is old enough for the next one
abbrev pub may_pass : ℕ → Option Passed → ℤ → Bool
may_pass pace None moment = true
may_pass pace (Some last) moment = is_due pace last moment

-- what the clock does to a quote that is held, if one is
abbrev pub on_held : ℕ → ℤ → Cell → Option Sides → Step
on_held pace moment cell None = rests cell
on_held pace moment cell (Some sides) = if may_pass pace cell.last moment then passing moment sides else rests cell

-- the clock says a moment
abbrev pub on_tick : ℕ → ℤ → Cell → Step
on_tick pace moment cell = on_held pace moment cell cell.held
