use Rattle.std.proofs.Common.{length, subst}
use Rattle.eager_meaning.specs.State.{State}
use Rattle.market_laws.specs.Placed.{IsPlacedBook}
use Rattle.symbol_book.proofs.RestingOrders.{priced_by}
use Rattle.symbol_book.proofs.book.BookOver.resting_order.Goals as goal

pub resting_row-requires-clause-priced : goal.resting_row-requires-clause-priced
resting_row-requires-clause-priced g c = λ x found.
    let kept = c.self.invariant.0 in
    let placed = subst (λ (s : State). IsPlacedBook s) kept.state (c.rows_are_placed.ensures (length c.self.inside.parts.markets) c.self.inside.tick c.self.inside.journal.items) in
    priced_by _ _ c.args.number x placed kept.quote found
