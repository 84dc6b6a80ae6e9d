use Rattle.std.proofs.Common.{◌≡◌, drop, length}
use Rattle.symbol_book.proofs.Reporting.{Midway}
use Rattle.symbol_book.proofs.trading.report_trades.Given as goal

-- what is reported and changed so far, and what is left
abbrev pub invariant-loop-fill : goal.invariant-loop-fill
invariant-loop-fill l =
    Midway l.event l.fills l.initial.orders l.initial.log l.initial.place (drop l.fill-index l.fills) l.orders l.log l.place
    × (length l.orders.items ≡ length l.initial.orders.items)
