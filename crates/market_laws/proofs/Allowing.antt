-- The trades of a recheck fit their orders.
use Rattle.std.proofs.Common.{◌≡◌, ℕ, ◌+◌, ◌≤◌, true, cond, List, [], ◌∷◌, length, Option, Some, None, refl, ap, sym, ◌∙◌, arith}
use Rattle.std.specs.Prelude.{slice_get, option_map, ◌==◌}
use Rattle.std.specs.List.{AllByRecursion}
use Rattle.std.proofs.lemmas.Bool.{eq-eqb}
use Rattle.venue_words.specs.ListLaws.{all_weaken}
use Rattle.venue_words.specs.declared.price.Best.{Best}
use Rattle.venue_words.specs.declared.price.Side.{Side}
use Rattle.venue_words.specs.declared.price.Side.TheVariants.{Buy, Sell}
use Rattle.venue_words.specs.declared.row.Priced.{Priced}
use Rattle.venue_words.specs.Best.{best_of}
use Rattle.venue_words.specs.Retime.{reprice}
use Rattle.eager_meaning.specs.declared.order.Order.{Order}
use Rattle.eager_meaning.specs.declared.trade.Fill.{Fill}
use Rattle.eager_meaning.specs.State.{State}
use Rattle.eager_meaning.specs.Trades.{orders_after, orders_after_all}
use Rattle.eager_meaning.specs.Recheck.{recheck}
use Rattle.eager_meaning.specs.Step.{runs}
use Rattle.market_laws.specs.Equalities.{some_is}
use Rattle.market_laws.specs.Fitting.{FillsFit, QuoteTradesFit}
use Rattle.market_laws.specs.Placed.{side_at, opposite, IsPlaced}
use Rattle.market_laws.specs.Sound.{AreSound, IsSoundOrder}
use Rattle.market_laws.proofs.Agreeing.{book_is_sound}
use Rattle.market_laws.proofs.Backing.{traded_in, traded_cons, changed_found, fill_found, found_after, none_after_fill}
use Rattle.market_laws.proofs.Lasting.{rows_placed}
use Rattle.market_laws.proofs.Meeting.{IsFairFill, recheck_fair, reprice_places}
use Rattle.market_laws.proofs.Siding.{sides_after}
use Rattle.market_laws.proofs.Sweeping.{recheck_sound, reprice_sound}

-- no order trades more than it has left
abbrev pub AllFit : List Fill → List Order → Type 0
AllFit fills orders = (k : ℕ) (order : Order) → slice_get orders k ≡ Some order → order.cum + traded_in k fills ≤ order.quantity

-- both orders of a trade are there
pub record AreThere (orders : List Order) (fill : Fill) : Type 0 where
  pub side : Side
  pub taker : side_at orders fill.taker.order ≡ Some side
  pub contra : side_at orders fill.contra.order ≡ Some (opposite side)

-- an order that has a side is there
record IsThere (orders : List Order) (k : ℕ) : Type 0 where
  order : Order
  is : slice_get orders k ≡ Some order

there : (orders : List Order) (k : ℕ) (side : Side) → side_at orders k ≡ Some side → IsThere orders k
there orders k side h = go (slice_get orders k) refl h where
  go : (found : Option Order) → slice_get orders k ≡ found → option_map (λ order. order.side) found ≡ Some side → IsThere orders k
  go None e g = cc
  go (Some order) e g = record { order = order; is = e }

rest_fit : (fill : Fill) (fills : List Fill) (orders : List Order) → AllFit (fill ∷ fills) orders → AllFit fills (orders_after fill orders)
rest_fit fill fills orders h k after is = go (slice_get orders k) refl where
  go : (before : Option Order) → slice_get orders k ≡ before → after.cum + traded_in k fills ≤ after.quantity
  go None e = let none = none_after_fill fill orders k e in let no_order = sym none ∙ is in cc
  go (Some before) e =
      let found = fill_found fill orders k before e in
      let same : found.order ≡ after = some_is _ _ (sym found.is ∙ is) in
      let all = traded_cons k fill fills in
      let fits = h k before e in
      let cum : found.order.cum ≡ after.cum = ap (λ (o : Order). o.cum) same in
      let quantity : found.order.quantity ≡ after.quantity = ap (λ (o : Order). o.quantity) same in
      let more = found.adds.cum in
      let still = found.adds.quantity in
      omega (arith, all)

yes : (k q : ℕ) → cond (k == k) q 0 ≡ q
yes k q = let e : (k == k) ≡ true = eq-eqb _ _ refl in rw e refl

pub fills_fit : (fills : List Fill) (orders : List Order) → AllByRecursion (AreThere orders) fills → AllFit fills orders → FillsFit fills orders
fills_fit [] orders a h = tt
fills_fit (fill ∷ fills) orders a h =
    let taker = there orders fill.taker.order a.0.side a.0.taker in
    let contra = there orders fill.contra.order (opposite a.0.side) a.0.contra in
    let half = changed_found fill fill.taker.order orders fill.contra.order contra.order contra.is in
    let taker_most = h fill.taker.order taker.order taker.is in
    let contra_most = h fill.contra.order contra.order contra.is in
    let taker_all = traded_cons fill.taker.order fill fills in
    let contra_all = traded_cons fill.contra.order fill fills in
    let kept = all_weaken (AreThere orders) (AreThere (orders_after fill orders))
    (λ f p. record { side = p.side; taker = sides_after fill orders f.taker.order ∙ p.taker; contra = sides_after fill orders f.contra.order ∙ p.contra }) fills a.1 in (
      record { order = taker.order; is = taker.is; most = omega (arith, taker_most, taker_all, yes fill.taker.order fill.quantity) },
      record { order = half.order; is = half.is; most = (let c = half.adds.cum in let q = half.adds.quantity in omega (arith, contra_most, contra_all, yes fill.contra.order fill.quantity)) },
      fills_fit fills (orders_after fill orders) kept (rest_fit fill fills orders h),
    )

-- what the orders after all trades say of those before
pub fit_from : (orders : List Order) (fills : List Fill) → ((k : ℕ) (order : Order) → slice_get (orders_after_all fills orders) k ≡ Some order → IsSoundOrder order) → AllFit fills orders
fit_from orders fills sound k order is =
    let found = found_after fills orders k order is in
    let good = sound k found.order found.is in
    let most = good.traded in
    let cum = found.adds.cum in
    let quantity = found.adds.quantity in
    omega arith

recheck_fits : (n : ℕ) (best : Best) (orders : List Order) (buys sells : List Priced) → AllByRecursion (IsPlaced best orders Buy) buys → AllByRecursion (IsPlaced best orders Sell) sells → AreSound n orders buys sells → FillsFit (recheck buys sells).fills orders
recheck_fits n best orders buys sells b s a =
    let fair = recheck_fair best orders buys sells b s in
    let fills : List Fill = (recheck buys sells).fills in
    fills_fit fills orders (all_weaken (IsFairFill best orders) (AreThere orders) (λ f p. record { side = p.side; taker = p.taker; contra = p.contra }) fills fair.fills)
    (fit_from orders fills (recheck_sound n orders buys sells a).sound)

pub quote_trades_fit : QuoteTradesFit
quote_trades_fit markets tick history numbered event best =
    let s : State = (runs markets tick history).state in
    let placed = rows_placed markets tick history in
    let agree = (book_is_sound markets tick history numbered).rows in
    recheck_fits (length history) best s.orders (reprice event best s.buys) (reprice event best s.sells)
    (reprice_places event (best_of s.markets) best s.orders Buy s.buys placed.buys) (reprice_places event (best_of s.markets) best s.orders Sell s.sells placed.sells)
    (reprice_sound (length history) event best s.orders s.buys s.sells agree)
