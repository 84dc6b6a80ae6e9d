use Rattle.symbol_book.proofs.Keeping.{kept_first}
use Rattle.symbol_book.proofs.book.BookOver.over.Goals as goal

-- no event, no row, and no room
pub invariant_of-result : goal.invariant_of-result
invariant_of-result g c = (
  rw (c.in_ok-markets.ensures, c.requires.buys, c.requires.sells, c.new-2.ensures.items, c.new-3.ensures.items, c.new-6.ensures.items)
      (kept_first c.args.tick c.args.limit c.args.markets _ _ _ _ c.requires.tick c.requires.limit c.requires.best c.requires.latest c.new-4.ensures.entries c.new-4.ensures.settled c.new-5.ensures.list),
  λ key e. cc,
)
