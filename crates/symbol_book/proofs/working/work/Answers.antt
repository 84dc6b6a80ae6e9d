use Rattle.std.proofs.Common.{◌≤◌, List, refl}
use Rattle.venue_words.specs.declared.row.Priced.{Priced}
use Rattle.eager_meaning.specs.Work.{key_count}
use Rattle.symbol_book.specs.Parts.{rows_in}
use Rattle.symbol_book.proofs.Bounds.{quote_within}
use Rattle.symbol_book.proofs.working.work.Goals as goal

pub returns-in-Quote-clause-most : goal.returns-in-Quote-clause-most
returns-in-Quote-clause-most g c =
    let rows : List Priced = rows_in g.E.Engine.buys g.E.Engine.sells c.args.parts.now in
    let narrow : g.E.Engine.width c.args.parts.now.engine ≤ key_count rows = c.requires.narrow.narrow (rw c.in-Quote.is refl) in
    rw c.in-Quote.is (quote_within _ _ _ _ _ c.on_quote.ensures.most narrow)
