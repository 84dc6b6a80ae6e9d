use Rattle.std.proofs.Common.{◌≡◌, ℕ, ◌++◌, Some, ap, sym, subst, ◌∙◌}
use Rattle.std.specs.Prelude.{Option, option_map}
use Rattle.venue_words.specs.Price.{price_shown, value_of}
use Rattle.venue_words.specs.declared.row.Row.{Row}
use Rattle.venue_words.specs.declared.row.Priced.{Priced}
use Rattle.eager_meaning.specs.Showing.{row_of_order}
use Rattle.symbol_book.specs.Finding.{IsRowIfLive}
use Rattle.symbol_book.proofs.LiveRows.{get_at, has_at, none_rests, rests_as}
use Rattle.symbol_book.proofs.RestingOrders.{again, within}
use Rattle.symbol_book.proofs.looking.resting_row.Goals as goal

some_pair : (x y : Option ℕ × ℕ) → Some x ≡ Some y → x ≡ y
some_pair x y e = cc

pub returns-in-None-clause-row : goal.returns-in-None-clause-row
returns-in-None-clause-row g c =
    let at = has_at c.args.orders.now c.args.number c.requires.here in
    sym (none_rests c.args.number at.x c.args.entered.now c.args.orders.now (g.E.Engine.buys c.args.engine.now ++ g.E.Engine.sells c.args.engine.now) c.requires.kept at.is
    (subst (IsRowIfLive c.args.orders.now c.args.entered.now c.args.number) c.in-None.is c.live_row.ensures))

pub priced-price-requires : goal.priced-price-requires
priced-price-requires g c =
    let at = has_at c.args.orders.now c.args.number c.requires.here in
    let r = rests_as c.args.number c.in-Some.entry at.x c.args.entered.now c.args.orders.now (g.E.Engine.buys c.args.engine.now ++ g.E.Engine.sells c.args.engine.now) c.requires.kept at.is
    (subst (IsRowIfLive c.args.orders.now c.args.entered.now c.args.number) c.in-Some.is c.live_row.ensures) in
    record { rests = r.rests }

pub priced_as-requires : goal.priced_as-requires
priced_as-requires g c = λ p e.
    let at = has_at c.args.orders.now c.args.number c.requires.here in
    let r = rests_as c.args.number c.in-Some.entry at.x c.args.entered.now c.args.orders.now (g.E.Engine.buys c.args.engine.now ++ g.E.Engine.sells c.args.engine.now) c.requires.kept at.is
    (subst (IsRowIfLive c.args.orders.now c.args.entered.now c.args.number) c.in-Some.is c.live_row.ensures) in
    let found = ap (λ (k : ℕ). option_map (λ (x : Priced). (price_shown x, x.time)) (row_of_order k (g.E.Engine.buys c.args.engine.now ++ g.E.Engine.sells c.args.engine.now))) (sym r.of) ∙ c.priced-price.ensures.shown in
    let shown : (price_shown r.x, r.x.time) ≡ c.priced-price.result =
    some_pair _ _ (sym (ap (λ (o : Option Priced). option_map (λ (x : Priced). (price_shown x, x.time)) o) r.is) ∙ found) in
    within (g.E.Engine.best c.args.engine.now) r.x p (c.requires.priced r.x r.is) (ap (λ (pair : Option ℕ × ℕ). pair.0) shown ∙ e)

pub returns-in-Some-clause-row : goal.returns-in-Some-clause-row
returns-in-Some-clause-row g c =
    let here = get_at c.args.orders.now c.args.number c.index-orders-number.result c.requires.here c.index-orders-number.is in
    let r = rests_as c.args.number c.in-Some.entry c.index-orders-number.result c.args.entered.now c.args.orders.now (g.E.Engine.buys c.args.engine.now ++ g.E.Engine.sells c.args.engine.now) c.requires.kept here
    (subst (IsRowIfLive c.args.orders.now c.args.entered.now c.args.number) c.in-Some.is c.live_row.ensures) in
    let found = ap (λ (k : ℕ). option_map (λ (x : Priced). (price_shown x, x.time)) (row_of_order k (g.E.Engine.buys c.args.engine.now ++ g.E.Engine.sells c.args.engine.now))) (sym r.of) ∙ c.priced-price.ensures.shown in
    let shown : (price_shown r.x, r.x.time) ≡ c.priced-price.result =
    some_pair _ _ (sym (ap (λ (o : Option Priced). option_map (λ (x : Priced). (price_shown x, x.time)) o) r.is) ∙ found) in
    let row : r.x.row ≡ c.row_by_now-row.result = r.row ∙ sym c.row_by_now-row.ensures in
    let made : c.priced_as.result ≡ record { row = r.x.row; value = option_map (value_of r.x.row.key.side) (price_shown r.x); time = r.x.time } =
    c.priced_as.ensures
    ∙ (ap (λ (pair : Option ℕ × ℕ). record { row = c.row_by_now-row.result; value = option_map (value_of c.row_by_now-row.result.key.side) pair.0; time = pair.1 }) (sym shown)
    ∙ ap (λ (row : Row). record { row = row; value = option_map (value_of row.key.side) (price_shown r.x); time = r.x.time }) (sym row)) in
    ap Some (made ∙ again (g.E.Engine.best c.args.engine.now) r.x (c.requires.priced r.x r.is)) ∙ sym r.is
