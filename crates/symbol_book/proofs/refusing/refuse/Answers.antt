use Rattle.std.proofs.Common.{◌≡◌, subst, sym, List, Option, [], ◌∷◌, rules}
use Rattle.venue_words.specs.declared.report.Kind.TheVariants.{Refused}
use Rattle.venue_words.specs.declared.report.NamedOrder.{NamedOrder}
use Rattle.eager_meaning.specs.declared.order.Order.{Order}
use Rattle.symbol_book.specs.Finding.{IsFound}
use Rattle.symbol_book.specs.Log.{Reports}
use Rattle.symbol_book.proofs.refusing.refuse.Goals as goal

pub returns-clause-reports : goal.returns-clause-reports
returns-clause-reports g c = λ rows is found.
    let lent : c.deref.result.now ≡ c.args.parts.now.orders.items = search rules in
    subst
    (λ (order : Option NamedOrder). Reports c.args.event.now c.args.parts.now.log.list 1 (record { member = c.args.copies.member; kind = Refused c.args.copies.shown c.args.copies.orig.id order c.args.request c.args.rule } ∷ []) c.push.new.self.list c.push.result)
    (c.named_order-order.ensures rows is (subst (λ (os : List Order). IsFound os rows is c.args.live) (sym lent) found)) c.push.ensures.reports
