use Rattle.std.proofs.Common.{◌≡◌, ap, ◌∙◌, List, length, arith, ◌<◌, ◌^◌}
use Rattle.peg_groups.proofs.Counting.{few_in_groups, length_insert}
use Rattle.venue_words.specs.declared.row.Row.{Row}
use Rattle.venue_words.specs.declared.row.Priced.{Priced}
use Rattle.peg_groups.specs.Side.{priced_at}
use Rattle.peg_groups.specs.Groups.{rows_of}
use Rattle.peg_groups.proofs.NoPass.{rows_enter}
use Rattle.peg_groups.proofs.SideSteps.{absent_later, side_put, keeps_enter}
use Rattle.peg_groups.proofs.group_side.GroupSideSideBook.put.Goals as goal

pub enter-requires-clause-absent : goal.enter-requires-clause-absent
enter-requires-clause-absent g c = absent_later c.self.inside.groups.entries c.args.node.value.row.entry (rw (← c.self.view_is) at c.requires.later.times)

pub overflow_add-self : goal.overflow_add-self
overflow_add-self g c = omega (arith, few_in_groups c.self.inside.best c.self.inside.event c.self.inside.groups.entries c.self.invariant.is.groups, c.self.invariant.len_is)

pub invariant_of-self : goal.invariant_of-self
invariant_of-self g c =
    let row : c.behind-node.inside.row ≡ c.args.node.value.row = ap (λ p. p.row) (c.behind-node.view_is ∙ c.deref.ensures) in
    let small : c.args.node.value.row.entry < 2 ^ 32 = omega (arith, c.behind-node.invariant.entry, ap (λ (r : Row). r.entry) row) in
    let r = side_put (record { entries = c.self.inside.groups.entries; best = c.self.inside.best; event = c.self.inside.event }) c.args.node.value.row c.enter.new.groups.entries c.self.invariant.is (rw row at c.enter.ensures.entered) (rw (← c.self.view_is) at c.requires.later) c.requires.row.least small in
    record { is = r.0; len_is = omega (arith, ap length r.1, length_insert (priced_at c.self.inside.best c.args.node.value.row) (rows_of c.self.inside.groups.entries), c.self.invariant.len_is); used = λ h. rows_enter _ _ _ _ c.enter.ensures.entered (c.self.invariant.used h); roomy = λ h. (keeps_enter _ _ _ _ c.enter.ensures.entered).room (c.self.invariant.roomy h) }

pub returns-clause-state : goal.returns-clause-state
returns-clause-state g c =
    let row : c.behind-node.inside.row ≡ c.args.node.value.row = ap (λ p. p.row) (c.behind-node.view_is ∙ c.deref.ensures) in
    let small : c.args.node.value.row.entry < 2 ^ 32 = omega (arith, c.behind-node.invariant.entry, ap (λ (r : Row). r.entry) row) in
    rw (← c.self.view_is)
    (ap (λ (rows : List Priced). record { rows = rows; best = c.self.inside.best; event = c.self.inside.event })
    (side_put (record { entries = c.self.inside.groups.entries; best = c.self.inside.best; event = c.self.inside.event }) c.args.node.value.row c.enter.new.groups.entries c.self.invariant.is (rw row at c.enter.ensures.entered) (rw (← c.self.view_is) at c.requires.later) c.requires.row.least small).1)

pub returns-clause-fits : goal.returns-clause-fits
returns-clause-fits g c = rw (← c.self.view_is) (keeps_enter _ _ _ _ c.enter.ensures.entered).fits

pub returns-clause-moves : goal.returns-clause-moves
returns-clause-moves g c = rw (← c.self.view_is) (keeps_enter _ _ _ _ c.enter.ensures.entered).room

pub returns-clause-width : goal.returns-clause-width
returns-clause-width g c = rw (← c.self.view_is) (keeps_enter _ _ _ _ c.enter.ensures.entered).len
