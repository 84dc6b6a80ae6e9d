-- What an order asks of a book can be submitted.
use Rattle.std.proofs.Common.{rules, ◌≡◌, Ok}
use Rattle.order_fields.specs.Order.{order}
use Rattle.order_fields.proofs.Submitting.{can_submit}
use Rattle.order_fields.proofs.order.read_order.Goals as goal

answered : (c : goal.In-Ok) → order c.args.request.now c.args.member c.args.config.now c.args.moment ≡ Ok c.in-Ok.decoded
unfolding order
answered c = search rules

pub returns-in-Ok-clause-submittable : goal.returns-in-Ok-clause-submittable
returns-in-Ok-clause-submittable c = λ config member.
    can_submit c.args.request.now c.args.member c.args.config.now c.args.moment c.in-Ok.decoded config member (answered c)

pub returns-in-Some-clause-order : goal.returns-in-Some-clause-order
unfolding order
returns-in-Some-clause-order c = search rules
