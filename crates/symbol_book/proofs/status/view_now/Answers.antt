use Rattle.std.proofs.Common.{◌≡◌, ℕ, ◌++◌, Some, ap, sym, subst, ◌∙◌}
use Rattle.std.specs.Prelude.{Option, option_map}
use Rattle.venue_words.specs.declared.row.Priced.{Priced}
use Rattle.venue_words.specs.Price.{price_shown}
use Rattle.eager_meaning.specs.declared.order.Order.{Order}
use Rattle.eager_meaning.specs.Showing.{live_at, view_with, row_of_order}
use Rattle.symbol_book.specs.Finding.{IsRowIfLive}
use Rattle.symbol_book.proofs.LiveRows.{get_at, live_rests, none_rests}
use Rattle.symbol_book.proofs.status.view_now.Goals as goal

some_pair : (x y : Option ℕ × ℕ) → Some x ≡ Some y → x ≡ y
some_pair x y e = cc

some_order : (x y : Order) → Some x ≡ Some y → x ≡ y
some_order x y e = cc

pub priced-price-requires : goal.priced-price-requires
priced-price-requires g c =
    let at = get_at c.args.orders.now c.args.number c.index-orders-number.result c.requires.here c.index-orders-number.is in
    let r = live_rests c.args.number c.in-Some.row c.index-orders-number.result c.args.entered.now c.args.orders.now _ c.requires.kept at
    (subst (IsRowIfLive c.args.orders.now c.args.entered.now c.args.number) c.in-Some.is c.live_row.ensures) in
    record { rests = r.2.rests }

pub view_at-requires : goal.view_at-requires
view_at-requires g c =
    c.requires.name c.index-orders-number.result (get_at c.args.orders.now c.args.number c.index-orders-number.result c.requires.here c.index-orders-number.is)

pub returns-in-Some-clause-view : goal.returns-in-Some-clause-view
returns-in-Some-clause-view g c = λ order at.
    let here = get_at c.args.orders.now c.args.number c.index-orders-number.result c.requires.here c.index-orders-number.is in
    let r = live_rests c.args.number c.in-Some.row c.index-orders-number.result c.args.entered.now c.args.orders.now _ c.requires.kept here
    (subst (IsRowIfLive c.args.orders.now c.args.entered.now c.args.number) c.in-Some.is c.live_row.ensures) in
    let same : c.index-orders-number.result ≡ order = some_order _ _ (sym here ∙ at) in
    let shown : (price_shown r.0, r.0.time) ≡ c.priced-price.result =
    some_pair _ _ (sym (ap (λ (o : Option Priced). option_map (λ (x : Priced). (price_shown x, x.time)) o) r.1) ∙ (ap (λ (k : ℕ). option_map (λ (x : Priced). (price_shown x, x.time)) (row_of_order k (g.E.Engine.buys c.args.engine.now ++ g.E.Engine.sells c.args.engine.now))) (sym r.2.order) ∙ c.priced-price.ensures.shown)) in
    let view = c.view_at.ensures ∙ ap (λ (p : Option ℕ × ℕ). view_with c.index-orders-number.result (live_at c.index-orders-number.result p.0 p.1)) (sym shown) in
    rw (r.1, ← same) view

pub returns-in-None-clause-view : goal.returns-in-None-clause-view
returns-in-None-clause-view g c = λ order at.
    let here = get_at c.args.orders.now c.args.number c.index-orders-number.result c.requires.here c.index-orders-number.is in
    let same : c.index-orders-number.result ≡ order = some_order _ _ (sym here ∙ at) in
    let none = none_rests c.args.number c.index-orders-number.result c.args.entered.now c.args.orders.now (g.E.Engine.buys c.args.engine.now ++ g.E.Engine.sells c.args.engine.now) c.requires.kept here
    (subst (IsRowIfLive c.args.orders.now c.args.entered.now c.args.number) c.in-None.is c.live_row.ensures) in
    rw (none, ← same) (c.view_closed.ensures.own (c.requires.name c.index-orders-number.result here))
