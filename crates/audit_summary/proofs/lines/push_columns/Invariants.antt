-- The sums so far stand there.
use Rattle.std.proofs.Common.{◌≡◌, ◌++◌, take}
use Rattle.std.specs.List.{flat_map}
use Rattle.audit_summary.specs.Sums.{sum_cell}
use Rattle.audit_summary.proofs.lines.push_columns.Given as goal

abbrev pub invariant-loop-column : goal.invariant-loop-column
invariant-loop-column l =
    l.out.items ≡ l.initial.out.items ++ flat_map (λ column. sum_cell l.member column) (take l.column-index l.columns)
