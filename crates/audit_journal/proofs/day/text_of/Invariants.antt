-- The text so far, and then that of the rest.
use Rattle.std.proofs.Common.{◌≡◌, ◌++◌, drop}
use Rattle.audit_journal.specs.Days.{text_of}
use Rattle.audit_journal.proofs.day.text_of.Given as goal

abbrev pub invariant-loop-line : goal.invariant-loop-line
invariant-loop-line l = l.text.items ++ text_of (drop l.line-index l.lines) ≡ text_of l.lines
