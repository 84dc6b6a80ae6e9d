use Rattle.std.proofs.Common.{◌≡◌, ◌≤◌, ◌*◌, take}
use Rattle.std.specs.List.{count_by}
use Rattle.venue_words.specs.declared.price.Side.TheVariants.{Buy}
use Rattle.market_laws.specs.Trading.{shares_traded}
use Rattle.replay_core.specs.Summary.{is_accepted, is_rejected, is_traded}
use Rattle.replay_core.proofs.summary.Summary.of.Given as goal

-- the reports so far were counted
abbrev pub invariant-loop-report : goal.invariant-loop-report
invariant-loop-report l = record {
  accepted : l.accepted ≡ count_by (λ report. is_accepted report.kind) (take l.report-index l.reports);
  rejected : l.rejected ≡ count_by (λ report. is_rejected report.kind) (take l.report-index l.reports);
  traded : l.traded ≡ count_by (λ report. is_traded report.kind) (take l.report-index l.reports);
  shares : l.shares ≡ shares_traded Buy (take l.report-index l.reports);
  within : l.shares ≤ 4294967295 * l.report-index;
}
