use Rattle.std.proofs.Common.{arith}
use Rattle.audit_tables.proofs.Pairing.{none_of}
use Rattle.audit_report.specs.declared.parts.Part.TheVariants.{Trades}
use Rattle.audit_report.specs.Parts.{box}
use Rattle.audit_report.proofs.Trading.{more_added, none_added, odd_added}
use Rattle.audit_report.proofs.trades.add_trades.Goals as goal

pub trades-init : goal.trades-init
trades-init c = record { rest = λ last adds. adds; within = omega arith }

pub trades-preserved : goal.trades-preserved
trades-preserved c =
    let a = c.in-Some.ensures.some in
    let b = c.in-Some-next_traded.ensures.some in
    let market = c.args.market in record {
      rest = λ last adds. c.trades.invariant.rest last
          (more_added (box Trades) market.config.now market.symbol market.best c.args.reports.now c.trades.place c.in-Some.first c.in-Some-next_traded.second
          c.index-reports-first.result c.index-reports-second.result c.trades.chunks c.add_trade.new.chunks last a b c.index-reports-first.is c.index-reports-second.is
          c.in_ok-add_trade.ensures adds);
      within = omega (arith, b.within);
    }

pub trades-smaller : goal.trades-smaller
trades-smaller c =
    let a = c.in-Some.ensures.some in
    let b = c.in-Some-next_traded.ensures.some in
    omega (arith, a.behind, a.within, b.behind, b.within)

pub returns-in_default : goal.returns-in_default
returns-in_default c =
    let market = c.args.market in
    c.trades.invariant.rest c.trades.chunks
    (none_added (box Trades) market.config.now market.symbol market.best c.args.reports.now c.trades.place c.trades.chunks
    (c.next_traded.ensures.none (none_of c.next_traded.result c.in_default.not-Some)))

pub returns-in_default-next_traded : goal.returns-in_default-next_traded
returns-in_default-next_traded c =
    let market = c.args.market in
    c.trades.invariant.rest c.trades.chunks
    (odd_added (box Trades) market.config.now market.symbol market.best c.args.reports.now c.trades.place c.in-Some.first c.trades.chunks c.in-Some.ensures.some
    (c.next_traded-in-trades.ensures.none (none_of c.next_traded-in-trades.result c.in_default-next_traded.not-Some)))
