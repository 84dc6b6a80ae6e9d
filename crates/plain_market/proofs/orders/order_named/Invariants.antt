use Rattle.std.proofs.Common.{◌≡◌, drop}
use Rattle.std.specs.Prelude.{find}
use Rattle.std.specs.List.{enumerate_from}
use Rattle.eager_meaning.specs.Orders.{is_named, order_named}
use Rattle.plain_market.proofs.orders.order_named.Given as goal

-- no order so far has the name
abbrev pub invariant-loop-order : goal.invariant-loop-order
invariant-loop-order l =
    (l.number ≡ l.order-index)
    × (find (λ found. is_named l.member l.id found.1) (enumerate_from l.number (drop l.order-index l.orders))
    ≡ order_named l.member l.id l.orders)
