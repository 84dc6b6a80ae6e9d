use Rattle.std.proofs.Common.{refl, sym, ◌∙◌, ap, subst}
use Rattle.std.specs.Global.{Vec}
use Rattle.audit_report.specs.declared.lives.At.{At}
use Rattle.audit_report.specs.Buckets.{AreOf}
use Rattle.audit_report.specs.declared.parts.Part.TheVariants.{Orders}
use Rattle.audit_report.specs.Orders.{order_row}
use Rattle.audit_report.specs.Parts.{box}
use Rattle.audit_report.proofs.Bucketing.{bucket_of}
use Rattle.audit_report.proofs.Ordering.{entry_of, has_bucket, order_added}
use Rattle.audit_report.proofs.orders.add_order.Goals as goal

pub bounds-lives-order : goal.bounds-lives-order
bounds-lives-order g c =
    let l = c.args.lives in
    has_bucket l.told.config.now l.told.symbol l.book.now l.told.journal.now l.told.reports.now l.buckets.now c.orders-orders.result.now c.args.number c.index-orders-number.result
    c.requires.lives c.orders-orders.ensures c.requires.number c.index-orders-number.is

pub row_of-requires : goal.row_of-requires
row_of-requires g c =
    let l = c.args.lives in
    subst (AreOf l.told.reports.now c.index-orders-number.result.first) (sym (c.deref.ensures.value ∙ ap (λ (b : Vec At). b.items) (sym c.index-lives-order.is)))
    (bucket_of l.told.reports.now l.buckets.now c.index-orders-number.result.first c.index-lives-order.result c.requires.lives.places
    (has_bucket l.told.config.now l.told.symbol l.book.now l.told.journal.now l.told.reports.now l.buckets.now c.orders-orders.result.now c.args.number c.index-orders-number.result
    c.requires.lives c.orders-orders.ensures c.requires.number c.index-orders-number.is) c.index-lives-order.is)

pub returns-then-is_full : goal.returns-then-is_full
returns-then-is_full g c =
    let l = c.args.lives in
    let order = c.index-orders-number.result in
    let row = order_row l.told.config.now l.told.symbol l.told.journal.now l.told.reports.now order c.resting_order-x.result in
    order_added l.told.config.now l.told.symbol l.book.now l.told.journal.now l.told.reports.now c.args.number order c.resting_order-x.result row c.args.chunks.now c.skip.new.self
    c.requires.lives.of c.requires.lives.events c.requires.lives.told c.requires.number (entry_of l.book.now c.orders-orders.result.now c.args.number order c.orders-orders.ensures c.index-orders-number.is)
    c.resting_order-x.ensures.row refl (c.in_ok-skip.ensures (box Orders) row)

pub returns : goal.returns
returns g c =
    let l = c.args.lives in
    let order = c.index-orders-number.result in
    order_added l.told.config.now l.told.symbol l.book.now l.told.journal.now l.told.reports.now c.args.number order c.resting_order-x.result c.in_ok-row.row.items c.args.chunks.now c.add_made.new.chunks
    c.requires.lives.of c.requires.lives.events c.requires.lives.told c.requires.number (entry_of l.book.now c.orders-orders.result.now c.args.number order c.orders-orders.ensures c.index-orders-number.is)
    c.resting_order-x.ensures.row c.in_ok-row.ensures c.in_ok-add_made.ensures
