use Rattle.std.proofs.Common.{◌≡◌, ◌≤◌, length, sym, arith}
use Rattle.std.specs.Prelude.{None, slice_get}
use Rattle.std.proofs.lemmas.Option.{slice_get_past}
use Rattle.std.proofs.lemmas.List.{append-nil}
use Rattle.plain_market.proofs.entering.push_leftover.Goals as goal

-- no order has this number, and nothing is told
pub returns-else-k-orders : goal.returns-else-k-orders
returns-else-k-orders c =
    let past : length c.args.orders.now ≤ c.args.number = omega arith in
    let none : slice_get c.args.orders.now c.args.number ≡ None = slice_get_past c.args.orders.now c.args.number past in
    rw none (sym (append-nil c.args.notices.now.items))
