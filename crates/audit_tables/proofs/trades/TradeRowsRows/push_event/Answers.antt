-- The trades of the event are told at the quote that is kept.
use Rattle.std.proofs.Common.{◌++◌, ℕ, List, ◌∙◌, ap}
use Rattle.audit_tables.proofs.Quoting.{trades_told}
use Rattle.audit_tables.proofs.trades.TradeRowsRows.push_event.Goals as goal

pub returns-clause-text : goal.returns-clause-text
returns-clause-text c =
    c.in_ok-push_trades.ensures
    ∙ ap (λ (t : List ℕ). c.args.out.now.items ++ t)
    (trades_told c.args.config.now c.args.symbol c.args.book.now.journal c.note_event.new.markets c.best-best.result c.args.made.now
    c.note_event.ensures c.best-best.ensures.computed c.requires.made)
