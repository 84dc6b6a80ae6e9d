use Rattle.std.proofs.Common.{ap, ◌∙◌, List, length, sym}
use Rattle.peg_groups.proofs.Counting.{length_reprice}
use Rattle.venue_words.specs.declared.row.Priced.{Priced}
use Rattle.peg_groups.specs.Groups.{IsMoved, rows_of}
use Rattle.peg_groups.proofs.NoPass.{rows_moved}
use Rattle.peg_groups.proofs.Repricing.{side_repriced, room_for_event, paired_has, paired_length}
use Rattle.peg_groups.proofs.group_side.GroupSideSideBook.reprice.Goals as goal

pub reprice_groups-requires : goal.reprice_groups-requires
reprice_groups-requires g c = record { room = room_for_event c.self.inside.best c.self.inside.event c.args.event c.self.inside.groups.entries c.self.invariant.is.groups (rw (← c.self.view_is) at c.requires.room) (rw (← c.self.view_is) at c.requires.later.pricing) }

pub invariant_of-self : goal.invariant_of-self
invariant_of-self g c =
    let r = side_repriced (record { entries = c.self.inside.groups.entries; best = c.self.inside.best; event = c.self.inside.event }) c.args.event c.args.best c.reprice_groups.new.groups.entries c.self.invariant.is (rw (← c.self.view_is) at c.requires.later) c.reprice_groups.ensures.moved in
    record { is = r.0; len_is = c.self.invariant.len_is ∙ sym (length_reprice c.args.event c.args.best (rows_of c.self.inside.groups.entries)) ∙ ap length (sym r.1); used = λ h. rows_moved c.args.event c.args.best c.self.inside.groups.entries c.reprice_groups.new.groups.entries c.reprice_groups.ensures.moved (c.self.invariant.used h); roomy = λ h. cc }

pub returns-clause-state : goal.returns-clause-state
returns-clause-state g c =
    rw (← c.self.view_is)
    (ap (λ (rows : List Priced). record { rows = rows; best = c.args.best; event = c.args.event })
    (side_repriced (record { entries = c.self.inside.groups.entries; best = c.self.inside.best; event = c.self.inside.event }) c.args.event c.args.best c.reprice_groups.new.groups.entries c.self.invariant.is (rw (← c.self.view_is) at c.requires.later) c.reprice_groups.ensures.moved).1)

pub returns-clause-rows : goal.returns-clause-rows
returns-clause-rows g c = rw (← c.self.view_is) (λ key h. paired_has (IsMoved c.args.event c.args.best) key h.0 c.self.inside.groups.entries c.reprice_groups.new.groups.entries c.reprice_groups.ensures.moved h.1)

pub returns-clause-width : goal.returns-clause-width
returns-clause-width g c = rw (← c.self.view_is) (paired_length (IsMoved c.args.event c.args.best) c.self.inside.groups.entries c.reprice_groups.new.groups.entries c.reprice_groups.ensures.moved)
