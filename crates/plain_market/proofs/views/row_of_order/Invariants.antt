use Rattle.std.proofs.Common.{◌≡◌, drop}
use Rattle.eager_meaning.specs.Showing.{row_of_order}
use Rattle.plain_market.proofs.views.row_of_order.Given as goal

-- no row so far is the order's
abbrev pub invariant-loop-x : goal.invariant-loop-x
invariant-loop-x l = row_of_order l.number (drop l.x-index l.rows) ≡ row_of_order l.number l.rows
