use Rattle.std.proofs.Common.{◌≤◌, ◌∙◌, ◌++◌, [], ◌∷◌, All, length, List, ℕ, sym, ap, subst}
use Rattle.eager_meaning.specs.declared.order.Order.{Order}
use Rattle.symbol_book.specs.Orders.{IsSmall}
use Rattle.symbol_book.proofs.Accepting.{small_more}
use Rattle.symbol_book.proofs.admitting.accept.Goals as goal

-- there is room for the order's id
pub push_reserved-requires-clause-id : goal.push_reserved-requires-clause-id
push_reserved-requires-clause-id g c =
    subst (λ (id : List ℕ). length id ≤ c.args.parts.now.orders.longest) (sym c.accepted_order-order.ensures.named) c.requires.fits.0

-- all orders are small with the accepted one
pub enter-requires-clause-small : goal.enter-requires-clause-small
enter-requires-clause-small g c =
    subst (All IsSmall) (sym (c.push_reserved.ensures.items ∙ ap (λ (order : Order). c.args.parts.now.orders.items ++ order ∷ []) c.accepted_order-order.ensures.order))
    (small_more c.args.tick c.args.event.now.number c.args.copies.member c.args.copies.order c.args.terms.now c.args.parts.now.orders.items c.requires.agree.kept.small)
