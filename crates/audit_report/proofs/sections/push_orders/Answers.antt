use Rattle.std.proofs.Common.{◌∙◌}
use Rattle.audit_report.specs.declared.parts.Part.TheVariants.{Orders}
use Rattle.audit_report.specs.Orders.{order_rows}
use Rattle.audit_report.specs.Parts.{box}
use Rattle.audit_report.proofs.sections.push_orders.Goals as goal

pub returns : goal.returns
returns c =
    let day = c.args.day in
    c.in_ok-push_part_of.ensures (order_rows day.config.now day.symbol day.book.now.journal)
    (c.in_ok-add_all.ensures.rows _ (c.new-orders.ensures.none (box Orders))) (c.in_ok-add_all.ensures.most ∙ c.new-orders.ensures.most ∙ c.share_of.ensures)
