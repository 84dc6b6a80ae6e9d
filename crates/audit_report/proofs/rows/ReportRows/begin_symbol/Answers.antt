use Rattle.std.proofs.Common.{◌∙◌}
use Rattle.audit_report.specs.declared.parts.Part.TheVariants.{Trades}
use Rattle.audit_report.specs.Parts.{box}
use Rattle.audit_report.proofs.Telling.{no_trades}
use Rattle.audit_report.proofs.rows.ReportRows.begin_symbol.Goals as goal

pub returns-clause-trades : goal.returns-clause-trades
returns-clause-trades c = λ symbol.
    no_trades c.args.config.now symbol _ (c.new.ensures.none (box Trades)) (c.new.ensures.most ∙ c.share_of.ensures)
