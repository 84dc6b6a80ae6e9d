-- There is room for the orders so far.
use Rattle.std.proofs.Common.{◌≡◌, ◌<◌, ℕ, Some}
use Rattle.std.specs.Prelude.{slice_get}
use Rattle.eager_meaning.specs.declared.order.Order.{Order}
use Rattle.audit_report.proofs.orders.room_for.Given as goal

abbrev pub invariant-loop-order : goal.invariant-loop-order
invariant-loop-order l = (k : ℕ) (order : Order) → k < l.order-index → slice_get l.orders k ≡ Some order → order.first < l.room
