-- No report so far tells of a trade.
use Rattle.std.proofs.Common.{◌≡◌, drop}
use Rattle.std.specs.Prelude.{filter}
use Rattle.audit_tables.specs.Trades.{is_traded}
use Rattle.audit_tables.proofs.trade_line.next_traded.Given as goal

abbrev pub invariant-loop-place : goal.invariant-loop-place
invariant-loop-place l = filter is_traded (drop l.place l.reports) ≡ filter is_traded (drop l.start l.reports)
