use Rattle.audit_report.proofs.rows.ReportRowsRows.begin.Goals as goal

pub returns-clause-heard : goal.returns-clause-heard
returns-clause-heard c = (c.in_ok-begin_symbol.ensures.quotes 0, c.in_ok-begin_symbol.ensures.trades 0)
