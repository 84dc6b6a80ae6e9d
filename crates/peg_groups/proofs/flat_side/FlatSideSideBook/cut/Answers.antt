use Rattle.std.proofs.Common.{◌≡◌, List, Option, Some, None, ℕ, ap, arith}
use Rattle.venue_words.specs.declared.row.Priced.{Priced}
use Rattle.std.specs.Option.{MatchOption}
use Rattle.std.specs.declared.alloc.Global.{Global}
use Rattle.std.specs.declared.boxed.Box.{Box}
use Rattle.limit_tree.specs.Part.{Part}
use Rattle.venue_words.specs.declared.price.Best.{Best}
use Rattle.venue_words.specs.declared.row.Key.{Key}
use Rattle.peg_groups.specs.Side.{IsCut, SideState}
use Rattle.peg_groups.proofs.FlatRows.{by_entry_places}
use Rattle.peg_groups.proofs.FlatSides.{cut_outcome}
use Rattle.peg_groups.proofs.flat_side.FlatSideSideBook.cut.Goals as goal

abbrev state : List Priced → Best → ℕ → SideState
state rows best event = record { rows = rows; best = best; event = event }

-- the state, where no row was there
found_of : (rows now : List Priced) (best : Best) (event : ℕ) (key : Key) (cap entry : ℕ) (o : Option (Box Part Global)) → MatchOption o (now ≡ rows) (λ node. IsCut key cap entry (record { rows = rows; best = best; event = event }) (record { rows = now; best = best; event = event }) node.value.row) → MatchOption o (state now best event ≡ state rows best event) (λ node. IsCut key cap entry (record { rows = rows; best = best; event = event }) (record { rows = now; best = best; event = event }) node.value.row)
found_of rows now best event key cap entry None m = ap (λ (all : List Priced). record { rows = all; best = best; event = event }) m
found_of rows now best event key cap entry (Some node) m = m

pub invariant_of-self : goal.invariant_of-self
invariant_of-self g c = (record { places = (cut_outcome c.self.inside.places.items c.cut_place.new.places.items c.self.inside.best c.self.inside.event c.args.key c.args.cap c.args.entry c.cut_place.result c.self.invariant.0.places c.cut_place.ensures.cut).are }, omega (arith, c.self.invariant.1))

pub returns-clause-by_entry : goal.returns-clause-by_entry
returns-clause-by_entry g c = rw (← c.self.view_is) (by_entry_places c.self.inside.places.items c.self.invariant.0.places)

pub returns-clause-found : goal.returns-clause-found
returns-clause-found g c = rw (← c.self.view_is) (found_of _ _ c.self.inside.best c.self.inside.event c.args.key c.args.cap c.args.entry c.cut_place.result (cut_outcome c.self.inside.places.items c.cut_place.new.places.items c.self.inside.best c.self.inside.event c.args.key c.args.cap c.args.entry c.cut_place.result c.self.invariant.0.places c.cut_place.ensures.cut).found)

pub returns-clause-none : goal.returns-clause-none
returns-clause-none g c = rw (← c.self.view_is) (cut_outcome c.self.inside.places.items c.cut_place.new.places.items c.self.inside.best c.self.inside.event c.args.key c.args.cap c.args.entry c.cut_place.result c.self.invariant.0.places c.cut_place.ensures.cut).none

pub returns-clause-alone : goal.returns-clause-alone
returns-clause-alone g c = (cut_outcome c.self.inside.places.items c.cut_place.new.places.items c.self.inside.best c.self.inside.event c.args.key c.args.cap c.args.entry c.cut_place.result c.self.invariant.0.places c.cut_place.ensures.cut).alone

pub returns-clause-cut_fits : goal.returns-clause-cut_fits
returns-clause-cut_fits g c = rw (← c.self.view_is) (cut_outcome c.self.inside.places.items c.cut_place.new.places.items c.self.inside.best c.self.inside.event c.args.key c.args.cap c.args.entry c.cut_place.result c.self.invariant.0.places c.cut_place.ensures.cut).fits

pub returns-clause-fits : goal.returns-clause-fits
returns-clause-fits g c = rw (← c.self.view_is) (cut_outcome c.self.inside.places.items c.cut_place.new.places.items c.self.inside.best c.self.inside.event c.args.key c.args.cap c.args.entry c.cut_place.result c.self.invariant.0.places c.cut_place.ensures.cut).keeps
