use Rattle.std.proofs.Common.{refl, arith}
use Rattle.audit_tables.proofs.Pairing.{lines_on, lines_over, none_of, trades_odd, trades_over}
use Rattle.audit_tables.proofs.trade_line.push_trades.Goals as goal

pub trades-init : goal.trades-init
trades-init c = record { text = refl; within = omega arith }

pub trades-preserved : goal.trades-preserved
trades-preserved c =
    let a = c.in-Some.ensures.some in
    let b = c.in-Some-next_traded.ensures.some in record {
      text = lines_on c.args.config.now c.args.symbol c.args.best c.args.reports.now c.trades.place c.in-Some.first c.in-Some-next_traded.second
          c.index-reports-first.result c.index-reports-second.result c.trades.out.items c.push_trade.new.out.items _ a b c.index-reports-first.is c.index-reports-second.is
          c.in_ok-push_trade.ensures c.trades.invariant.text;
      within = omega (arith, b.within);
    }

pub trades-smaller : goal.trades-smaller
trades-smaller c =
    let a = c.in-Some.ensures.some in
    let b = c.in-Some-next_traded.ensures.some in
    omega (arith, a.behind, a.within, b.behind, b.within)

pub returns-in_default : goal.returns-in_default
returns-in_default c =
    lines_over c.args.config.now c.args.symbol c.args.best c.args.reports.now c.trades.place c.trades.out.items _
    (trades_over c.args.reports.now c.trades.place (c.next_traded.ensures.none (none_of c.next_traded.result c.in_default.not-Some))) c.trades.invariant.text

pub returns-in_default-next_traded : goal.returns-in_default-next_traded
returns-in_default-next_traded c =
    lines_over c.args.config.now c.args.symbol c.args.best c.args.reports.now c.trades.place c.trades.out.items _
    (trades_odd c.args.reports.now c.trades.place c.in-Some.first c.in-Some.ensures.some
    (c.next_traded-in-trades.ensures.none (none_of c.next_traded-in-trades.result c.in_default-next_traded.not-Some))) c.trades.invariant.text
