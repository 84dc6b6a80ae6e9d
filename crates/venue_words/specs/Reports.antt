-- What a report shows of an order.
use Rattle.std.specs.Prelude.{ℕ, ◌==◌, if◌then◌else◌, Option, Some, None}
use Rattle.venue_words.specs.declared.report.LiveOrder.{LiveOrder}
use Rattle.venue_words.specs.declared.report.OrderStatus.{OrderStatus}
use Rattle.venue_words.specs.declared.report.OrderStatus.TheVariants.{New, PartiallyFilled, Filled, Canceled}
use Rattle.venue_words.specs.declared.report.View.{View}

-- OrdStatus of a live order that has traded so many shares
abbrev pub live_status : ℕ → OrderStatus
live_status cum = if cum == 0 then New else PartiallyFilled

-- OrdStatus of an order of so many shares that has left, and had traded so many
abbrev pub closed_status : ℕ → ℕ → OrderStatus
closed_status quantity cum = if cum == quantity then Filled else Canceled

abbrev pub status_in : Option LiveOrder → ℕ → ℕ → OrderStatus
status_in (Some live) quantity cum = live_status cum
status_in None quantity cum = closed_status quantity cum

-- OrdStatus of an order
abbrev pub status_of : View → OrderStatus
status_of view = status_in view.live view.quantity view.cum
