-- How reports show an order.
use Rattle.std.specs.Prelude.{ℕ, ◌-◌, nat_lt, ◌==◌, if◌then◌else◌, List, Option, Some, None, option_and_then, find}
use Rattle.venue_words.specs.declared.row.Priced.{Priced}
use Rattle.venue_words.specs.declared.report.LiveOrder.{LiveOrder}
use Rattle.venue_words.specs.declared.report.View.{View}
use Rattle.venue_words.specs.Price.{price_shown}
use Rattle.eager_meaning.specs.declared.order.Order.{Order}
use Rattle.eager_meaning.specs.declared.trade.Party.{Party}

-- what an order has at a price and a time: it is live while shares are left
abbrev pub live_at : Order → Option ℕ → ℕ → Option LiveOrder
live_at order price time =
    if nat_lt order.cum order.quantity
    then Some (record { leaves = order.quantity - order.cum; price = price; time = time })
    else None

-- an order with what it has while it is live
unfoldable pub view_with : Order → Option LiveOrder → View
view_with order live =
    record {
      first = order.first;
      id = order.id;
      side = order.side;
      quantity = order.quantity;
      pegged = order.pegged;
      limit = order.limit;
      cum = order.cum;
      notional = order.notional;
      live = live;
    }

-- an order that has left
abbrev pub view_closed : Order → View
view_closed order = view_with order None

-- an order after a trade of which it is a party
abbrev pub view_traded : Order → Party → View
view_traded order party = view_with order (live_at order party.price party.time)

-- an order with the row that it has or had
abbrev pub view_of : Order → Option Priced → View
view_of order row = view_with order (option_and_then (λ x. live_at order (price_shown x) x.time) row)

-- the row of an order, where it has one
unfoldable pub row_of_order : ℕ → List Priced → Option Priced
row_of_order number rows = find (λ x. x.row.order == number) rows
