use Rattle.std.proofs.Common.{◌∙◌, sym, ap, List, ◌++◌, ℕ, arith}
use Rattle.std.specs.Prelude.{Option, option_to_list}
use Rattle.audit_summary.specs.Columns.{trade_in}
use Rattle.audit_summary.proofs.Lists.{filter_map_next}
use Rattle.audit_summary.proofs.columns.trade_pairs.Goals as goal

-- one more report is counted
pub loop-report-preserved : goal.loop-report-preserved
loop-report-preserved c =
    let reports = c.args.reports.now in
    let k = c.loop-report.report-index in
    let report = c.report-item.result in
    c.in_ok-push_pair.ensures
    ∙ (ap (λ (pair : Option (ℕ × ℕ)). c.loop-report.pairs.items ++ option_to_list pair) c.trade_in.ensures
    ∙ (ap (λ (pairs : List (ℕ × ℕ)). pairs ++ option_to_list (trade_in report)) c.loop-report.invariant
    ∙ sym (filter_map_next trade_in reports k report (omega arith) c.report-item.is)))
