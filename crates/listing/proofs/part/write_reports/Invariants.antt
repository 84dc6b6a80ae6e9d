use Rattle.std.proofs.Common.{◌≤◌, List, ℕ, Option, take}
use Rattle.std.specs.List.{flat_map}
use Rattle.listing.specs.Handing.{Hands}
use Rattle.listing.specs.Lines.{report_line, ended}
use Rattle.listing.proofs.part.write_reports.Given as goal

-- the reports so far are on their way
pub record Written (told_old told_new : Option (List ℕ)) (held_old held_new text : List ℕ) (before now : ℕ) : Type 0 where
  pub hands : Hands told_old told_new held_old held_new text
  pub later : before ≤ now

abbrev pub invariant-loop-report : goal.invariant-loop-report
invariant-loop-report g l =
    Written (g.K.Sink.told l.initial.out) (g.K.Sink.told l.out) l.initial.pending l.pending
    (flat_map (λ r. ended (report_line l.part.config.now l.part.symbol r)) (take l.report-index l.told))
    (g.K.Sink.faults l.initial.out) (g.K.Sink.faults l.out)
