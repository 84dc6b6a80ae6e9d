use Rattle.std.proofs.Common.{◌≡◌, List, Option, Some, None, ℕ, ap, arith}
use Rattle.venue_words.specs.declared.row.Priced.{Priced}
use Rattle.std.specs.Option.{IfSome}
use Rattle.venue_words.specs.Rows.{without_entry}
use Rattle.venue_words.specs.declared.price.Best.{Best}
use Rattle.peg_groups.specs.Flat.{rows_in}
use Rattle.peg_groups.specs.Side.{SideState, without}
use Rattle.peg_groups.specs.declared.flat.Place.{Place}
use Rattle.peg_groups.specs.declared.side_book.Taken.{Taken}
use Rattle.peg_groups.proofs.FlatRows.{by_entry_places}
use Rattle.peg_groups.proofs.FlatSides.{best_outcome}
use Rattle.peg_groups.proofs.flat_side.FlatSideSideBook.take_best.Goals as goal

abbrev state : List Priced → Best → ℕ → SideState
state rows best event = record { rows = rows; best = best; event = event }

left_of : (rows now : List Priced) (best : Best) (event : ℕ) (o : Option Taken) → IfSome o (λ taken. now ≡ without_entry taken.node.value.row.entry rows) → IfSome o (λ taken. state now best event ≡ without taken.node.value.row.entry (state rows best event))
left_of rows now best event None m = tt
left_of rows now best event (Some taken) m = ap (λ (all : List Priced). state all best event) m

pub invariant_of-self : goal.invariant_of-self
invariant_of-self g c = (record { places = (best_outcome c.self.inside.places.items c.take_first.new.places.items c.take_first.result c.self.invariant.0.places c.take_first.ensures.none c.take_first.ensures.first).are }, omega (arith, c.self.invariant.1))

pub returns-clause-by_entry : goal.returns-clause-by_entry
returns-clause-by_entry g c = rw (← c.self.view_is) (by_entry_places c.self.inside.places.items c.self.invariant.0.places)

pub returns-clause-none : goal.returns-clause-none
returns-clause-none g c = rw (← c.self.view_is) (best_outcome c.self.inside.places.items c.take_first.new.places.items c.take_first.result c.self.invariant.0.places c.take_first.ensures.none c.take_first.ensures.first).none

pub returns-clause-same : goal.returns-clause-same
returns-clause-same g c = rw (← c.self.view_is) (λ none. ap (λ (places : List Place). state (rows_in places) c.self.inside.best c.self.inside.event) ((best_outcome c.self.inside.places.items c.take_first.new.places.items c.take_first.result c.self.invariant.0.places c.take_first.ensures.none c.take_first.ensures.first).same none))

pub returns-clause-best : goal.returns-clause-best
returns-clause-best g c = rw (← c.self.view_is) (best_outcome c.self.inside.places.items c.take_first.new.places.items c.take_first.result c.self.invariant.0.places c.take_first.ensures.none c.take_first.ensures.first).best

pub returns-clause-state : goal.returns-clause-state
returns-clause-state g c = rw (← c.self.view_is) (left_of _ _ c.self.inside.best c.self.inside.event c.take_first.result (best_outcome c.self.inside.places.items c.take_first.new.places.items c.take_first.result c.self.invariant.0.places c.take_first.ensures.none c.take_first.ensures.first).left)

pub returns-clause-alone : goal.returns-clause-alone
returns-clause-alone g c = (best_outcome c.self.inside.places.items c.take_first.new.places.items c.take_first.result c.self.invariant.0.places c.take_first.ensures.none c.take_first.ensures.first).alone

pub returns-clause-taken_fits : goal.returns-clause-taken_fits
returns-clause-taken_fits g c = (best_outcome c.self.inside.places.items c.take_first.new.places.items c.take_first.result c.self.invariant.0.places c.take_first.ensures.none c.take_first.ensures.first).fits

pub returns-clause-fits : goal.returns-clause-fits
returns-clause-fits g c = rw (← c.self.view_is) (best_outcome c.self.inside.places.items c.take_first.new.places.items c.take_first.result c.self.invariant.0.places c.take_first.ensures.none c.take_first.ensures.first).keeps
