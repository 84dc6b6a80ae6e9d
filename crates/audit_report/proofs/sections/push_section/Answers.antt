use Rattle.std.proofs.Common.{◌∙◌}
use Rattle.audit_report.specs.TradeRows.{trade_rows}
use Rattle.audit_report.proofs.Parting.{section_held}
use Rattle.audit_report.proofs.sections.push_section.Goals as goal

pub returns : goal.returns
returns c =
    section_held c.args.config.now c.args.symbol c.args.book.now.journal c.reports.result.now c.args.out.now.items c.push_part_of.new.out.items c.push_orders.new.out.items
    c.push_refusals.new.out.items (c.reports.ensures.list ∙ c.requires.of.reports)
    (c.in_ok-push_part_of.ensures (trade_rows c.args.config.now c.args.symbol c.args.book.now.journal) c.requires.trades c.requires.most)
    c.in_ok-push_orders.ensures c.in_ok-push_refusals.ensures
