-- With the rows of the trades that are still to come those of all trades are added.
use Rattle.std.proofs.Common.{◌≤◌, ◌-◌, length}
use Rattle.audit_html.specs.declared.chunks.Chunks.{Chunks}
use Rattle.audit_report.specs.declared.parts.Part.TheVariants.{Trades}
use Rattle.audit_report.specs.Parts.{box}
use Rattle.audit_report.proofs.Trading.{AddsFrom}
use Rattle.audit_report.proofs.trades.add_trades.Given as goal

abbrev pub invariant-trades : goal.invariant-trades
invariant-trades l = record {
  rest : (last : Chunks) → AddsFrom (box Trades) l.market.config.now l.market.symbol l.market.best l.reports l.place l.chunks last
      → AddsFrom (box Trades) l.market.config.now l.market.symbol l.market.best l.reports 0 l.initial.chunks last;
  within : l.place ≤ length l.reports;
}

abbrev pub decreases-trades : goal.decreases-trades
decreases-trades l = length l.reports - l.place
