-- With the trades that are still to come the lines are those of all trades.
use Rattle.std.proofs.Common.{◌≡◌, ◌≤◌, ◌-◌, ◌++◌, drop, length}
use Rattle.audit_tables.specs.Trades.{trade_lines, trades_in}
use Rattle.audit_tables.proofs.trade_line.push_trades.Given as goal

abbrev pub invariant-trades : goal.invariant-trades
invariant-trades l = record {
  text : l.out.items ++ trade_lines l.config l.symbol l.best (trades_in (drop l.place l.reports)) ≡ l.initial.out.items ++ trade_lines l.config l.symbol l.best (trades_in l.reports);
  within : l.place ≤ length l.reports;
}

abbrev pub decreases-trades : goal.decreases-trades
decreases-trades l = length l.reports - l.place
