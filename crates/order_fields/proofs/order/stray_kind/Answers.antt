use Rattle.std.proofs.Common.{rules}
use Rattle.order_fields.specs.Order.{stray_kind}
use Rattle.order_fields.proofs.order.stray_kind.Goals as goal

pub returns-in-CancelRequest : goal.returns-in-CancelRequest
unfolding stray_kind
returns-in-CancelRequest c = search rules
