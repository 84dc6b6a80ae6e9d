use Rattle.std.proofs.Common.{List, ap, ◌∙◌, arith}
use Rattle.venue_words.specs.declared.row.Priced.{Priced}
use Rattle.peg_groups.specs.Flat.{rows_in}
use Rattle.peg_groups.proofs.FlatRows.{entries_early}
use Rattle.peg_groups.proofs.FlatSides.{place_keys}
use Rattle.peg_groups.proofs.FlatSteps.{places_repriced, rows_few, rows_repriced_in}
use Rattle.peg_groups.proofs.flat_side.FlatSideSideBook.reprice.Goals as goal

pub reprice_all-requires : goal.reprice_all-requires
reprice_all-requires g c = record { keys = place_keys c.self.inside.places.items c.self.invariant.0.places }

pub invariant_of-self : goal.invariant_of-self
invariant_of-self g c = (record { places = rw c.reprice_all.ensures.items (places_repriced c.args.event c.args.best c.self.inside.places.items c.self.invariant.0.places (entries_early c.self.inside.places.items c.args.event c.self.invariant.0.places (rw (← c.self.view_is) at c.requires.later.times))) }, omega (arith, c.self.invariant.1))

pub returns-clause-state : goal.returns-clause-state
returns-clause-state g c = rw (← c.self.view_is) (ap (λ (rows : List Priced). record { rows = rows; best = c.args.best; event = c.args.event }) (ap rows_in c.reprice_all.ensures.items ∙ rows_repriced_in c.args.event c.args.best c.self.inside.places.items c.self.invariant.0.places))

pub returns-clause-visits : goal.returns-clause-visits
returns-clause-visits g c = rw (← c.self.view_is) (omega (arith, rows_few c.self.inside.places.items))
