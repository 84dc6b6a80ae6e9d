use Rattle.std.proofs.Common.{◌≡◌, ◌∙◌, List, ap, sym, subst, rules}
use Rattle.eager_meaning.specs.declared.order.Order.{Order}
use Rattle.eager_meaning.specs.Verdict.{verdict}
use Rattle.symbol_book.specs.Finding.{IsFound}
use Rattle.symbol_book.proofs.refusing.rule_of_request.Goals as goal

pub returns : goal.returns
returns g c = λ rows is found.
    let lent : c.deref.result.now ≡ c.args.parts.now.orders.items = search rules in
    c.verdict.ensures
    ∙ ap (verdict c.args.event.now.command) (c.known_of-known.ensures.known rows is (subst (λ (os : List Order). IsFound os rows is c.args.live) (sym lent) found))
