use Rattle.std.proofs.Common.{List, length, ap, ◌∙◌, arith}
use Rattle.venue_words.specs.declared.row.Priced.{Priced}
use Rattle.peg_groups.specs.Flat.{rows_in}
use Rattle.peg_groups.proofs.FlatSteps.{length_filled, places_filled, rows_filled}
use Rattle.peg_groups.proofs.flat_side.FlatSideSideBook.tidy.Goals as goal

pub invariant_of-self : goal.invariant_of-self
invariant_of-self g c = (record { places = rw c.drop_free.ensures.items (places_filled c.self.inside.places.items c.self.invariant.0.places) }, omega (arith, c.self.invariant.1, ap length c.drop_free.ensures.items, length_filled c.self.inside.places.items))

pub returns-clause-state : goal.returns-clause-state
returns-clause-state g c = rw (← c.self.view_is) (ap (λ (rows : List Priced). record { rows = rows; best = c.self.inside.best; event = c.self.inside.event }) (ap rows_in c.drop_free.ensures.items ∙ rows_filled c.self.inside.places.items))

pub returns-clause-width : goal.returns-clause-width
returns-clause-width g c = rw (← c.self.view_is, c.drop_free.ensures.items) (omega (arith, length_filled c.self.inside.places.items))
