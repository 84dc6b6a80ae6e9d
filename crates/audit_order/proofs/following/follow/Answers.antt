use Rattle.audit_order.proofs.Stepping.{keeps_on}
use Rattle.audit_order.proofs.following.follow.Goals as goal

pub returns : goal.returns
returns c =
    keeps_on c.args.config.now c.args.symbol c.args.first c.args.book.now c.args.followed c.journal.result.now c.event_count-count.result c.order_count-orders.result
    c.before_after-before.result c.number_after-number.result c.resting-rests.result c.requires c.journal.ensures.list c.event_count-count.ensures c.order_count-orders.ensures
    c.before_after-before.ensures c.number_after-number.ensures c.resting-rests.ensures
