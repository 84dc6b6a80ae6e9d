-- The lines so far and those of the rest.
use Rattle.std.proofs.Common.{◌≡◌, ◌+◌, length}
use Rattle.audit_journal.specs.Days.{head_count}
use Rattle.audit_journal.proofs.day.head_count.Given as goal

abbrev pub invariant-loop-line : goal.invariant-loop-line
invariant-loop-line l = record {
  counted : l.count + head_count l.rest ≡ head_count l.lines;
  within : l.count + length l.rest ≡ length l.lines;
}

abbrev pub decreases-loop-line : goal.decreases-loop-line
decreases-loop-line l = length l.rest
