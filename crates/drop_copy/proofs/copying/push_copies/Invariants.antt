-- The copies so far were added.
use Rattle.std.proofs.Common.{◌≡◌, ◌++◌, map, take}
use Rattle.drop_copy.specs.Copies.{copy_of}
use Rattle.drop_copy.proofs.copying.push_copies.Given as goal

abbrev pub invariant-loop-report : goal.invariant-loop-report
invariant-loop-report l =
    l.messages ≡ l.initial.messages ++ map (copy_of l.member l.symbol) (take l.report-index l.reports)
