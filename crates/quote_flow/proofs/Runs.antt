-- Runs of quotes and ticks, event by event.
use Rattle.std.proofs.Common.{◌≡◌, ◌⊎◌, ℕ, ℤ, if◌then◌else◌, Bool, true, false, List, [], ◌∷◌, ◌++◌, Option, Some, None, refl, ◌∙◌, ap, inl, inr}
use Rattle.std.specs.Option.{option_to_list}
use Rattle.quote_flow.specs.declared.quote.Sides.{Sides}
use Rattle.quote_flow.specs.declared.cell.Passed.{Passed}
use Rattle.quote_flow.specs.declared.cell.Cell.{Cell}
use Rattle.quote_flow.specs.declared.cell.Step.{Step}
use Rattle.quote_flow.specs.Cells.{may_pass, passes_now, passing, holding, rests, on_held, on_quote, on_tick}
use Rattle.quote_flow.specs.Laws.{Event, comes, ticks, cell_after, passed_in, came_in, AreSomeOf, last_of, newest}

-- one more quote before them changes nothing
skips : (some quotes : List Sides) (quote : Sides) → AreSomeOf some quotes → AreSomeOf some (quote ∷ quotes)
skips [] quotes quote h = tt
skips (one ∷ others) quotes quote h = inr h

-- a quote that is held may be passed over
skips_held : (some quotes : List Sides) (held : Option Sides) → AreSomeOf some quotes → AreSomeOf some (option_to_list held ++ quotes)
skips_held some quotes None h = h
skips_held some quotes (Some sides) h = skips some quotes sides h

-- a step of a quote, by whether it passes
abbrev by_passing : Bool → ℤ → Cell → Sides → Step
by_passing b moment cell sides = if b then passing moment sides else holding cell sides

-- a step of the clock over a held quote, by whether it may pass
abbrev by_clock : Bool → ℤ → Cell → Sides → Step
by_clock b moment cell sides = if b then passing moment sides else rests cell

module _ (pace : ℕ) where
  some_quote : (cell : Cell) (moment : ℤ) (sides : Sides) (events : List Event) (b : Bool)
      → AreSomeOf (passed_in pace (passing moment sides).cell events) (came_in events)
      → AreSomeOf (passed_in pace (holding cell sides).cell events) (sides ∷ came_in events)
      → AreSomeOf (option_to_list (by_passing b moment cell sides).passes ++ passed_in pace (by_passing b moment cell sides).cell events) (option_to_list cell.held ++ (sides ∷ came_in events))
  some_quote cell moment sides events true passed held =
      skips_held (sides ∷ passed_in pace (passing moment sides).cell events) (sides ∷ came_in events) cell.held (inl (refl, passed))
  some_quote cell moment sides events false passed held =
      skips_held (passed_in pace (holding cell sides).cell events) (sides ∷ came_in events) cell.held held

  some_clock : (cell : Cell) (moment : ℤ) (sides : Sides) (events : List Event) (b : Bool)
      → AreSomeOf (passed_in pace (passing moment sides).cell events) (came_in events)
      → AreSomeOf (passed_in pace cell events) (sides ∷ came_in events)
      → AreSomeOf (option_to_list (by_clock b moment cell sides).passes ++ passed_in pace (by_clock b moment cell sides).cell events) (sides ∷ came_in events)
  some_clock cell moment sides events true passed held = inl (refl, passed)
  some_clock cell moment sides events false passed held = held

  some_tick : (last : Option Passed) (held : Option Sides) (moment : ℤ) (events : List Event)
      → ((sides : Sides) → AreSomeOf (passed_in pace (passing moment sides).cell events) (came_in events))
      → AreSomeOf (passed_in pace (record { last = last; held = held }) events) (option_to_list held ++ came_in events)
      → let step = on_held pace moment (record { last = last; held = held }) held in
      AreSomeOf (option_to_list step.passes ++ passed_in pace step.cell events) (option_to_list held ++ came_in events)
  some_tick last None moment events passed rest = rest
  some_tick last (Some sides) moment events passed rest =
      some_clock (record { last = last; held = Some sides }) moment sides events (may_pass pace last moment) (passed sides) rest

  pub some_of : (cell : Cell) (events : List Event) → AreSomeOf (passed_in pace cell events) (option_to_list cell.held ++ came_in events)
  some_of cell [] = tt
  some_of cell (comes moment sides ∷ events) =
      some_quote cell moment sides events (passes_now pace cell.last moment sides)
      (some_of (passing moment sides).cell events) (some_of (holding cell sides).cell events)
  some_of cell (ticks moment ∷ events) =
      some_tick cell.last cell.held moment events (λ sides. some_of (passing moment sides).cell events) (some_of cell events)

  newest_quote : (b : Bool) (moment : ℤ) (cell : Cell) (sides : Sides) → newest (by_passing b moment cell sides).cell ≡ Some sides
  newest_quote true moment cell sides = refl
  newest_quote false moment cell sides = refl

  newest_clock : (b : Bool) (moment : ℤ) (last : Option Passed) (sides : Sides)
      → newest (by_clock b moment (record { last = last; held = Some sides }) sides).cell ≡ Some sides
  newest_clock true moment last sides = refl
  newest_clock false moment last sides = refl

  newest_tick : (last : Option Passed) (held : Option Sides) (moment : ℤ)
      → newest (on_held pace moment (record { last = last; held = held }) held).cell ≡ newest (record { last = last; held = held })
  newest_tick last None moment = refl
  newest_tick last (Some sides) moment = newest_clock (may_pass pace last moment) moment last sides

  pub newest_after : (cell : Cell) (events : List Event) → newest (cell_after pace cell events) ≡ last_of (newest cell) (came_in events)
  newest_after cell [] = refl
  newest_after cell (comes moment sides ∷ events) =
      newest_after (on_quote pace moment cell sides).cell events
      ∙ ap (λ (n : Option Sides). last_of n (came_in events)) (newest_quote (passes_now pace cell.last moment sides) moment cell sides)
  newest_after cell (ticks moment ∷ events) =
      newest_after (on_tick pace moment cell).cell events
      ∙ ap (λ (n : Option Sides). last_of n (came_in events)) (newest_tick cell.last cell.held moment)

  no_longer_by : (b : Bool) (moment : ℤ) (last : Option Passed) (sides : Sides) → may_pass pace last moment ≡ b
      → ((by_clock b moment (record { last = last; held = Some sides }) sides).cell.held ≡ None)
      ⊎ (may_pass pace (by_clock b moment (record { last = last; held = Some sides }) sides).cell.last moment ≡ false)
  no_longer_by true moment last sides e = inl refl
  no_longer_by false moment last sides e = inr e

  pub no_longer : (last : Option Passed) (held : Option Sides) (moment : ℤ)
      → ((on_held pace moment (record { last = last; held = held }) held).cell.held ≡ None)
      ⊎ (may_pass pace (on_held pace moment (record { last = last; held = held }) held).cell.last moment ≡ false)
  no_longer last None moment = inl refl
  no_longer last (Some sides) moment = no_longer_by (may_pass pace last moment) moment last sides refl
