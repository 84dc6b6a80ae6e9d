use Rattle.std.proofs.Common.{List, ap, arith}
use Rattle.venue_words.specs.declared.row.Priced.{Priced}
use Rattle.peg_groups.proofs.FlatSides.{row_back}
use Rattle.peg_groups.proofs.flat_side.FlatSideSideBook.put_back.Goals as goal

pub invariant_of-self : goal.invariant_of-self
invariant_of-self g c = (record { places = (row_back c.self.inside.places.items c.put_in_place.new.places.items c.args.taken c.self.invariant.0.places c.requires.alone (rw (← c.self.view_is) at c.requires.absent) c.put_in_place.ensures.filled).are }, omega (arith, c.self.invariant.1))

pub returns-clause-state : goal.returns-clause-state
returns-clause-state g c = rw (← c.self.view_is) (ap (λ (rows : List Priced). record { rows = rows; best = c.self.inside.best; event = c.self.inside.event }) (row_back c.self.inside.places.items c.put_in_place.new.places.items c.args.taken c.self.invariant.0.places c.requires.alone (rw (← c.self.view_is) at c.requires.absent) c.put_in_place.ensures.filled).rows)

pub returns-clause-fits : goal.returns-clause-fits
returns-clause-fits g c = rw (← c.self.view_is) (row_back c.self.inside.places.items c.put_in_place.new.places.items c.args.taken c.self.invariant.0.places c.requires.alone (rw (← c.self.view_is) at c.requires.absent) c.put_in_place.ensures.filled).keeps
