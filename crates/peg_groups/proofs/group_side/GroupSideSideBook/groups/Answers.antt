use Rattle.std.proofs.Common.{sym, ◌∙◌}
use Rattle.peg_groups.proofs.KeyCounts.{key_count_used}
use Rattle.peg_groups.proofs.group_side.GroupSideSideBook.groups.Goals as goal

pub returns : goal.returns
returns c = rw (← c.self.view_is) (c.used_groups.ensures ∙ sym (key_count_used c.self.inside.best c.self.inside.event c.self.inside.groups.entries c.self.invariant.is.groups))
