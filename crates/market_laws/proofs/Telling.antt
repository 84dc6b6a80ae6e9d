-- What the notices of trades tell.
use Rattle.std.proofs.Common.{◌≡◌, ℕ, ◌+◌, Bool, true, false, List, [], ◌∷◌, ◌++◌, Option, Some, None, refl, ap, sym, ◌∙◌, zero-add, arith}
use Rattle.std.specs.Prelude.{slice_get, sum_by, option_map, option_to_list}
use Rattle.std.proofs.lemmas.List.Sums.{sum_by-append, sum_by-cons}
use Rattle.std.specs.List.{AllByRecursion}
use Rattle.venue_words.specs.declared.command.Event.{Event}
use Rattle.venue_words.specs.declared.price.Best.{Best}
use Rattle.venue_words.specs.declared.price.Side.{Side}
use Rattle.venue_words.specs.declared.price.Side.TheVariants.{Buy, Sell}
use Rattle.venue_words.specs.declared.report.Execution.TheVariants.{Traded}
use Rattle.venue_words.specs.declared.report.Kind.{Kind}
use Rattle.venue_words.specs.declared.report.Kind.TheVariants.{Order as OrderReport}
use Rattle.venue_words.specs.declared.row.Priced.{Priced}
use Rattle.venue_words.specs.ListLaws.{all_append}
use Rattle.eager_meaning.specs.declared.notice.Notice.{Notice}
use Rattle.eager_meaning.specs.declared.order.Order.{Order}
use Rattle.eager_meaning.specs.declared.trade.Fill.{Fill}
use Rattle.eager_meaning.specs.declared.trade.Party.{Party}
use Rattle.eager_meaning.specs.Showing.{view_with, view_traded}
use Rattle.eager_meaning.specs.Trades.{orders_after, trade_notice, trade_notices}
use Rattle.eager_meaning.specs.Entering.{leftover_notice, leftover_notices}
use Rattle.eager_meaning.specs.Step.{reports_from}
use Rattle.market_laws.specs.Equalities.{some_is}
use Rattle.market_laws.specs.Placed.{side_at, opposite}
use Rattle.market_laws.specs.Trading.{shares_if, shares_on, shares_traded, IsPricedWithin}
use Rattle.market_laws.proofs.Siding.{sides_after}
use Rattle.market_laws.specs.ListLaws.{all_found, all_flat}
use Rattle.market_laws.proofs.Meeting.{IsFairFill}

-- the shares of a side that notices tell
abbrev pub shares_told : Side → List Notice → ℕ
shares_told side notices = sum_by (λ notice. shares_on side notice.kind) notices

-- a notice of no trade
pub record IsNoTrade (kind : Kind) : Type 0 where
  pub none : (side : Side) → shares_on side kind ≡ 0
  pub any : (best : Best) → IsPricedWithin best kind

pub told_reports : (side : Side) (place : ℕ) (event : Event) (notices : List Notice) → shares_traded side (reports_from place event notices) ≡ shares_told side notices
unfolding reports_from
told_reports side place event [] = refl
told_reports side place event (notice ∷ notices) =
    let more = told_reports side (place + 1) event notices in
    let left = sum_by-cons (λ report. shares_on side report.kind) (record { event = event.number; place = place; member = notice.member; moment = event.moment; kind = notice.kind }) (reports_from (place + 1) event notices) in
    let right = sum_by-cons (λ n. shares_on side n.kind) notice notices in
    left ∙ (ap (λ n. shares_on side notice.kind + n) more ∙ sym right)

pub priced_reports : (best : Best) (place : ℕ) (event : Event) (notices : List Notice) → AllByRecursion (λ notice. IsPricedWithin best notice.kind) notices → AllByRecursion (λ report. IsPricedWithin best report.kind) (reports_from place event notices)
unfolding reports_from
priced_reports best place event [] a = tt
priced_reports best place event (notice ∷ notices) a = (a.0, priced_reports best (place + 1) event notices a.1)

pub none_told : (side : Side) (notices : List Notice) → AllByRecursion (λ notice. IsNoTrade notice.kind) notices → shares_told side notices ≡ 0
none_told side [] a = refl
none_told side (notice ∷ notices) a =
    let here = a.0.none side in
    let more = none_told side notices a.1 in
    let all = sum_by-cons (λ n. shares_on side n.kind) notice notices in
    omega arith

pub none_priced : (best : Best) (notices : List Notice) → AllByRecursion (λ notice. IsNoTrade notice.kind) notices → AllByRecursion (λ notice. IsPricedWithin best notice.kind) notices
none_priced best [] a = tt
none_priced best (notice ∷ notices) a = (a.0.any best, none_priced best notices a.1)

pub left_no_trade : (immediate : Bool) (left : List Priced) (orders : List Order) → AllByRecursion (λ notice. IsNoTrade notice.kind) (leftover_notices immediate left orders)
unfolding leftover_notices
left_no_trade true left orders =
    all_flat (λ notice. IsNoTrade notice.kind) (λ x. leftover_notice x.row.order orders)
    (λ x. all_found (λ notice. IsNoTrade notice.kind) _ (λ order. record { none = λ side. refl; any = λ best. tt }) (slice_get orders x.row.order)) left
left_no_trade false left orders = tt

-- ---- trades

one_told : (fill : Fill) (party : Party) (side s : Side) (found : Option Order) → option_map (λ order. order.side) found ≡ Some side
    → shares_told s (option_to_list (option_map (λ order. record { member = order.member; kind = OrderReport (view_traded order party) (Traded fill.quantity fill.price) }) found)) ≡ shares_if s side fill.quantity
unfolding view_with
one_told fill party side s None h = cc
one_told fill party side s (Some order) h = ap (λ (z : Side). 0 + shares_if s z fill.quantity) (some_is _ _ h) ∙ zero-add _

trade_told : (fill : Fill) (orders : List Order) (party : Party) (side s : Side) → side_at orders party.order ≡ Some side → shares_told s (trade_notice fill orders party) ≡ shares_if s side fill.quantity
unfolding trade_notice
trade_told fill orders party side s h = one_told fill party side s (slice_get orders party.order) h

even : (side : Side) (q : ℕ) → shares_if Buy side q + shares_if Buy (opposite side) q ≡ shares_if Sell side q + shares_if Sell (opposite side) q
even Buy q = omega arith
even Sell q = omega arith

pub trades_even : (best : Best) (orders : List Order) (fills : List Fill) → AllByRecursion (IsFairFill best orders) fills → (now : List Order) → ((j : ℕ) → side_at now j ≡ side_at orders j) → shares_told Buy (trade_notices fills now) ≡ shares_told Sell (trade_notices fills now)
unfolding trade_notices
trades_even best orders [] a now same = refl
trades_even best orders (fill ∷ fills) a now same =
    let next : List Order = orders_after fill now in
    let still = λ (j : ℕ). sides_after fill now j ∙ same j in
    let taker = λ (s : Side). trade_told fill next fill.taker a.0.side s (still fill.taker.order ∙ a.0.taker) in
    let contra = λ (s : Side). trade_told fill next fill.contra (opposite a.0.side) s (still fill.contra.order ∙ a.0.contra) in
    let more = trades_even best orders fills a.1 next still in
    let parts = λ (s : Side).
    sum_by-append (λ (n : Notice). shares_on s n.kind) (trade_notice fill next fill.taker) (trade_notice fill next fill.contra ++ trade_notices fills next)
    ∙ ap (λ n. shares_told s (trade_notice fill next fill.taker) + n) (sum_by-append (λ (n : Notice). shares_on s n.kind) (trade_notice fill next fill.contra) (trade_notices fills next)) in
    let both = even a.0.side fill.quantity in
    omega (arith, parts Buy, parts Sell, taker Buy, taker Sell, contra Buy, contra Sell)

pub trades_priced : (best : Best) (orders : List Order) (fills : List Fill) → AllByRecursion (IsFairFill best orders) fills → (now : List Order) → AllByRecursion (λ notice. IsPricedWithin best notice.kind) (trade_notices fills now)
unfolding trade_notices trade_notice
trades_priced best orders [] a now = tt
trades_priced best orders (fill ∷ fills) a now =
    let next : List Order = orders_after fill now in
    all_append (λ notice. IsPricedWithin best notice.kind) (trade_notice fill next fill.taker) _
    (all_found (λ notice. IsPricedWithin best notice.kind) _ (λ order. a.0.price) (slice_get next fill.taker.order))
    (all_append (λ notice. IsPricedWithin best notice.kind) (trade_notice fill next fill.contra) _
    (all_found (λ notice. IsPricedWithin best notice.kind) _ (λ order. a.0.price) (slice_get next fill.contra.order))
    (trades_priced best orders fills a.1 next))
