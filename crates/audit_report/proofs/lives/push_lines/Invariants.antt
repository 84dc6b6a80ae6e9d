-- The lines so far stand there.
use Rattle.std.proofs.Common.{◌≡◌, ◌++◌, take}
use Rattle.std.specs.List.{flat_map}
use Rattle.audit_report.specs.declared.lives.At.{At}
use Rattle.audit_report.specs.Buckets.{line_there}
use Rattle.audit_report.proofs.lives.push_lines.Given as goal

abbrev pub invariant-loop-at : goal.invariant-loop-at
invariant-loop-at l =
    l.out.items ≡ l.initial.out.items
    ++ flat_map (λ (at : At). line_there l.told.config.now l.told.symbol l.told.journal.now l.told.reports.now at.place) (take l.at-index l.places)
