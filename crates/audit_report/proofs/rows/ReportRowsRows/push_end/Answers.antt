use Rattle.std.proofs.Common.{◌+◌}
use Rattle.audit_report.proofs.rows.ReportRowsRows.push_end.Goals as goal

pub returns-clause-heard : goal.returns-clause-heard
returns-clause-heard c = (c.in_ok-begin_symbol.ensures.quotes (c.args.symbol + 1), c.in_ok-begin_symbol.ensures.trades (c.args.symbol + 1))
