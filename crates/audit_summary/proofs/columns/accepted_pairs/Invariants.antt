use Rattle.std.proofs.Common.{◌≡◌, take}
use Rattle.std.specs.Prelude.{filter_map}
use Rattle.audit_summary.specs.Columns.{accepted_in}
use Rattle.audit_summary.proofs.columns.accepted_pairs.Given as goal

-- the pairs are those of the reports so far
abbrev pub invariant-loop-report : goal.invariant-loop-report
invariant-loop-report l =
    l.pairs.items ≡ filter_map accepted_in (take l.report-index l.reports)
