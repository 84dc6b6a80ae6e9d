use Rattle.std.proofs.Common.{List, ◌++◌, arith}
use Rattle.std.proofs.lemmas.List.{length-append}
use Rattle.venue_words.specs.declared.row.Priced.{Priced}
use Rattle.symbol_book.proofs.Bounds.{most_keys}
use Rattle.symbol_book.proofs.Keeping.{few_orders}
use Rattle.symbol_book.proofs.book.BookOver.groups.Goals as goal

-- no more groups than rows, and no more rows than events
pub overflow_cast-result : goal.overflow_cast-result
overflow_cast-result g c =
    let few = few_orders _ _ _ _ _ _ _ _ _ _ _ _ c.self.invariant.0 c.book_is_sound.ensures in
    let buys : List Priced = g.E.Engine.buys c.self.inside.parts.engine in
    let sells : List Priced = g.E.Engine.sells c.self.inside.parts.engine in
    omega (arith, c.groups.ensures, most_keys (buys ++ sells), length-append buys sells, few.0, few.1, c.self.invariant.0.short, c.self.invariant.0.limits)
