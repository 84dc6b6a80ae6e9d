-- One more event was told of.
use Rattle.std.proofs.Common.{sym, subst}
use Rattle.audit_tables.specs.Quotes.{HasQuotes}
use Rattle.audit_report.specs.Gathering.{HasTrades}
use Rattle.audit_report.proofs.Telling.{trades_more}
use Rattle.audit_report.proofs.rows.ReportRowsRows.push_event.Goals as goal

pub returns-clause-heard : goal.returns-clause-heard
returns-clause-heard c =
    let next = c.requires.next in
    let config = c.args.config.now in
    let journal = c.args.book.now.journal in (
      subst (HasQuotes config c.args.symbol journal) (sym c.in_ok-note.ensures.markets) c.note_event.ensures,
      subst (HasTrades config c.args.symbol journal) (sym c.in_ok-note.ensures.trades)
          (trades_more config c.args.symbol next.before journal next.event c.note_event.new.markets c.best.result c.args.made.now c.args.self.now.trades
          c.add_trades.new.chunks next.heard.1 next.journal c.note_event.ensures c.best.ensures.computed c.requires.made c.in_ok-add_trades.ensures),
    )
