use Rattle.std.proofs.Common.{ap, ◌∙◌, List, length, sym}
use Rattle.peg_groups.proofs.NoPass.{all_used, room_left, used_left}
use Rattle.peg_groups.proofs.KeyCounts.{key_count_used}
use Rattle.venue_words.specs.declared.row.Priced.{Priced}
use Rattle.peg_groups.specs.Groups.{rows_of}
use Rattle.peg_groups.proofs.Repricing.{rows_used, groups_used, length_used}
use Rattle.peg_groups.proofs.group_side.GroupSideSideBook.tidy.Goals as goal

pub invariant_of-self : goal.invariant_of-self
invariant_of-self g c = record {
  is = record { groups = rw c.drop_empty.ensures.entries (groups_used c.self.inside.best c.self.inside.event c.self.inside.groups.entries c.self.invariant.is.groups) };
  len_is = c.self.invariant.len_is ∙ ap length (sym (ap rows_of c.drop_empty.ensures.entries ∙ rows_used c.self.inside.groups.entries));
  used = λ _. rw c.drop_empty.ensures.entries (used_left c.self.inside.groups.entries);
  roomy = λ h. rw c.drop_empty.ensures.entries (room_left c.self.inside.groups.entries (c.self.invariant.roomy h));
}

pub returns-then-self-clause-state : goal.returns-then-self-clause-state
returns-then-self-clause-state g c = rw (← c.self.view_is) (ap (λ (rows : List Priced). record { rows = rows; best = c.self.inside.best; event = c.self.inside.event }) (ap rows_of c.drop_empty.ensures.entries ∙ rows_used c.self.inside.groups.entries))

pub returns-then-self-clause-width : goal.returns-then-self-clause-width
returns-then-self-clause-width g c = rw (← c.self.view_is, c.drop_empty.ensures.entries) (length_used c.self.inside.groups.entries)

pub returns-then-self-clause-keys : goal.returns-then-self-clause-keys
returns-then-self-clause-keys g c = rw (c.drop_empty.ensures.entries, rows_used c.self.inside.groups.entries) (sym (key_count_used c.self.inside.best c.self.inside.event c.self.inside.groups.entries c.self.invariant.is.groups))

pub returns-else-self-clause-keys : goal.returns-else-self-clause-keys
returns-else-self-clause-keys g c = rw (← c.self.view_is) (sym (key_count_used c.self.inside.best c.self.inside.event c.self.inside.groups.entries c.self.invariant.is.groups ∙ ap length (all_used c.self.inside.groups.entries (c.self.invariant.used c.if-self.false))))
