use Rattle.std.proofs.Common.{◌≡◌, List, sym, subst, rules}
use Rattle.std.specs.Prelude.{Option}
use Rattle.venue_words.specs.declared.row.Row.{Row}
use Rattle.venue_words.specs.declared.row.Priced.{Priced}
use Rattle.eager_meaning.specs.declared.order.Order.{Order}
use Rattle.eager_meaning.specs.Orders.{live_named}
use Rattle.symbol_book.specs.Finding.{IsFound}
use Rattle.symbol_book.specs.Parts.{rows_in}
use Rattle.symbol_book.specs.Rows.{AreEntered}
use Rattle.symbol_book.proofs.finding.find_named.Goals as goal

pub returns-clause-live : goal.returns-clause-live
returns-clause-live g c =
    let orders : List Order = c.args.parts.now.orders.items in
    let rows : List Priced = rows_in g.E.Engine.buys g.E.Engine.sells c.args.parts.now in
    let lent : c.deref.result.now ≡ orders = search rules in
    let lent_entries : c.deref-2.result.now ≡ c.args.parts.now.entered.items = search rules in
    subst (λ (os : List Order). IsFound os rows (live_named c.args.copies.now.orig.member c.args.copies.now.orig.id os rows) c.find_live.result) lent
    (c.find_live.ensures.live rows (subst (λ (os : List Order). AreEntered c.deref-2.result.now os rows) (sym lent) (subst (λ (es : List (Option Row)). AreEntered es orders rows) (sym lent_entries) c.requires.agree.kept.entered_rows)))
