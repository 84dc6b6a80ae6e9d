use Rattle.std.proofs.Common.{◌≡◌, take}
use Rattle.std.specs.Prelude.{filter_map}
use Rattle.audit_summary.specs.Columns.{command_in}
use Rattle.audit_summary.proofs.columns.command_pairs.Given as goal

-- the pairs are those of the events so far
abbrev pub invariant-loop-event : goal.invariant-loop-event
invariant-loop-event l =
    l.pairs.items ≡ filter_map command_in (take l.event-index l.journal)
