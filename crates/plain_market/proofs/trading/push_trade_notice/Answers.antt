use Rattle.std.proofs.Common.{◌≡◌, ◌≤◌, length, sym, arith}
use Rattle.std.specs.Prelude.{None, slice_get}
use Rattle.std.proofs.lemmas.Option.{slice_get_past}
use Rattle.std.proofs.lemmas.List.{append-nil}
use Rattle.eager_meaning.specs.Trades.{trade_notice}
use Rattle.plain_market.proofs.trading.push_trade_notice.Goals as goal

-- no order has this number, and nothing is told
pub returns-else-k-orders : goal.returns-else-k-orders
unfolding trade_notice
returns-else-k-orders c =
    let past : length c.args.orders.now ≤ c.args.party.order = omega arith in
    let none : slice_get c.args.orders.now c.args.party.order ≡ None =
    slice_get_past c.args.orders.now c.args.party.order past in
    rw none (sym (append-nil c.args.notices.now.items))
