use Rattle.std.proofs.Common.{◌≡◌, ◌+◌, ◌*◌, ◌≤◌, length}
use Rattle.peg_groups.specs.Groups.{PairedUpTo, IsMoved}
use Rattle.peg_groups.proofs.pricing.reprice_groups.Given as goal

-- the groups so far were told the quote, and the others are as they were
abbrev pub invariant-loop-i : goal.invariant-loop-i
invariant-loop-i g l = record {
  moved : PairedUpTo (IsMoved l.event l.best) l.i l.initial.groups.entries l.groups.entries;
  ends : l.i-end ≡ length l.initial.groups.entries;
  ticks : l.initial.steps + l.i ≤ l.steps;
  most : l.steps ≤ l.initial.steps + 65 * l.i;
}
