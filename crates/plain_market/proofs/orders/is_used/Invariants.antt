use Rattle.std.proofs.Common.{◌≡◌, drop}
use Rattle.eager_meaning.specs.Orders.{is_used}
use Rattle.plain_market.proofs.orders.is_used.Given as goal

-- the id is not among those so far
abbrev pub invariant-loop-pair : goal.invariant-loop-pair
invariant-loop-pair l = is_used l.member l.id (drop l.pair-index l.used) ≡ is_used l.member l.id l.used
