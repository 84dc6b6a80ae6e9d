use Rattle.symbol_book.proofs.Conditions.{row_is}
use Rattle.symbol_book.proofs.entering.entering_row.Goals as goal

pub returns-clause-fits : goal.returns-clause-fits
returns-clause-fits c =
    row_is c.args.tick c.args.event c.args.order c.args.member c.args.cum c.args.terms.now c.row_of.result c.row_of.ensures c.requires
