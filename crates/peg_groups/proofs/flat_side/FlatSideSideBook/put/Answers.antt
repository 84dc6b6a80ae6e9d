use Rattle.std.proofs.Common.{◌≡◌, List, Option, ℕ, ap, ◌∙◌, arith}
use Rattle.venue_words.specs.declared.row.Priced.{Priced}
use Rattle.venue_words.specs.Peg.{row_value}
use Rattle.peg_groups.proofs.FlatSides.{keeps_append, row_added}
use Rattle.peg_groups.proofs.flat_side.FlatSideSideBook.put.Goals as goal

pub invariant_of-self : goal.invariant_of-self
invariant_of-self g c =
    let row : c.behind-node.inside.row ≡ c.args.node.value.row = ap (λ p. p.row) (c.behind-node.view_is ∙ c.deref.ensures) in
    let r = row_added c.self.inside.places.items c.add_place.new.places.items c.self.inside.best c.args.node c.behind-node.inside.row c.row_value.result c.self.invariant.0.places row (c.row_value.ensures ∙ ap (λ (o : Option ℕ). row_value o c.behind-node.inside.row.cap) c.peg_value.ensures) c.requires.row.key c.requires.alone (rw (← c.self.view_is) at c.requires.later.times) c.add_place.ensures.items in
    (record { places = r.are }, omega (arith, c.self.invariant.1))

pub returns-clause-state : goal.returns-clause-state
returns-clause-state g c =
    let row : c.behind-node.inside.row ≡ c.args.node.value.row = ap (λ p. p.row) (c.behind-node.view_is ∙ c.deref.ensures) in
    let r = row_added c.self.inside.places.items c.add_place.new.places.items c.self.inside.best c.args.node c.behind-node.inside.row c.row_value.result c.self.invariant.0.places row (c.row_value.ensures ∙ ap (λ (o : Option ℕ). row_value o c.behind-node.inside.row.cap) c.peg_value.ensures) c.requires.row.key c.requires.alone (rw (← c.self.view_is) at c.requires.later.times) c.add_place.ensures.items in
    rw (← c.self.view_is) (ap (λ (rows : List Priced). record { rows = rows; best = c.self.inside.best; event = c.self.inside.event }) r.rows)

pub returns-clause-fits : goal.returns-clause-fits
returns-clause-fits g c = rw (← c.self.view_is, c.add_place.ensures.items) (λ s k. keeps_append c.self.inside.places.items _ s k)
