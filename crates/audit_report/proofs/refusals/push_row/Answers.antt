use Rattle.std.proofs.Common.{◌++◌, codes}
use Rattle.audit_report.specs.Cells.{when_cells}
use Rattle.audit_report.specs.Refusals.{refusal_row, who_cells, why_cell}
use Rattle.audit_report.proofs.Chaining.{joined}
use Rattle.audit_report.proofs.refusals.push_row.Goals as goal

pub returns : goal.returns
unfolding refusal_row
returns c =
    let old = c.args.out.now.items in
    joined old (codes "<tr class=\"row\">" ++ when_cells c.args.report.now ++ who_cells c.args.config.now c.args.report.now ++ codes "<td>" ++ c.args.request.now) (why_cell c.args.rule) (joined old (codes "<tr class=\"row\">" ++ when_cells c.args.report.now ++ who_cells c.args.config.now c.args.report.now ++ codes "<td>") (c.args.request.now) (joined old (codes "<tr class=\"row\">" ++ when_cells c.args.report.now ++ who_cells c.args.config.now c.args.report.now) (codes "<td>") (joined old (codes "<tr class=\"row\">" ++ when_cells c.args.report.now) (who_cells c.args.config.now c.args.report.now) (joined old (codes "<tr class=\"row\">") (when_cells c.args.report.now) (c.in_ok-push.ensures) (c.in_ok-push_when.ensures)) (c.in_ok-push_who.ensures)) (c.in_ok-push-2.ensures)) (c.in_ok-push-3.ensures)) (c.in_ok-push_why.ensures)
